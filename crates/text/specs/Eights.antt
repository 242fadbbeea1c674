-- The eight groups of a number, there and back.
use Rattle.std.specs.Prelude.{◌≡◌, ℕ, ◌^◌, ◌<◌, ◌≤◌, List, length, slice_index, refl}
use Rattle.std.proofs.Common.{sym, ◌∙◌, ap, ⊎_elim, arith}
use Rattle.std.proofs.lemmas.List.{get_or_past}
use Rattle.std.proofs.lemmas.Bool.{cases_lt}
use Rattle.address.proofs.Reading.{address_one}
use Rattle.address.proofs.Canon.{text6_address, text6_short}
use Rattle.prefix.specs.Groups.{whole, Eight}
use Rattle.prefix.specs.Eights.{whole_one, whole_small, below_eight}
use Rattle.text.specs.Families.{groups, Spelt6, written6}

pub whole-groups : (n : ℕ) → n < 2 ^ 128 → whole (groups n) ≡ n
whole-groups n h = omega arith

pub groups_eight : (n : ℕ) → n < 2 ^ 128 → Eight (groups n)
groups_eight n h =
    let below = below_eight (λ k. slice_index (groups n) k < 65536) (omega arith) (omega arith) (omega arith) (omega arith) (omega arith) (omega arith) (omega arith) (omega arith) in
    record { count = refl; each = λ k. ⊎_elim (below k) (λ past. omega (arith, get_or_past (groups n) k 0 past)) (cases_lt k 8) }

pub groups-whole : (gs : List ℕ) → Eight gs → groups (whole gs) ≡ gs
groups-whole gs e = let h = whole_small gs e.each in whole_one (groups (whole gs)) gs (groups_eight (whole gs) h) e (whole-groups (whole gs) h)

pub spelt6_one : (text : List ℕ) (m n : ℕ) → Spelt6 text m → Spelt6 text n → m ≡ n
spelt6_one text m n s t = sym s.number ∙ ap whole (address_one text s.eight t.eight s.reads t.reads) ∙ t.number

pub written6_spelt : (n : ℕ) → n < 2 ^ 128 → Spelt6 (written6 n) n
written6_spelt n h = let e = groups_eight n h in record { eight = groups n; reads = text6_address (groups n) e.count e.each; number = whole-groups n h }

pub written6_short : (n : ℕ) → n < 2 ^ 128 → length (written6 n) ≤ 39
written6_short n h = let e = groups_eight n h in text6_short (groups n) e.count e.each
