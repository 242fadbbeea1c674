-- Groups that are shifted in one by one, each behind those before it, write the number of eight groups.
use Rattle.std.proofs.Common.{◌≡◌, ℕ, suc, ◌+◌, ◌*◌, ◌%◌, ◌^◌, ◌<◌, ◌≤◌, List, [], ◌∷◌, length, get_or, bit_or, fold, refl, ap, ◌∙◌, arith, pow-add}
use Rattle.std.proofs.lemmas.Nat.{shl_whole, or_shifted, mul-add-lt}
use Rattle.prefix.specs.Groups.{whole, Eight}
use Rattle.prefix.specs.Eights.{listed}

abbrev pub shifted : ℕ → ℕ → ℕ
shifted n group = bit_or ((n * 2 ^ 16) % 2 ^ 128) group

abbrev behind : ℕ → ℕ → ℕ
behind n group = n * 65536 + group

all_behind : (j n : ℕ) (gs : List ℕ) → n < 2 ^ j → j + 16 * length gs ≤ 128 → ((k : ℕ) → get_or gs k 0 < 65536) → fold shifted n gs ≡ fold behind n gs
all_behind j n [] small fits each = refl
all_behind j n (x ∷ xs) small fits each =
    let whole_shift : (n * 2 ^ 16) % 2 ^ 128 ≡ n * 2 ^ 16 = shl_whole n j 16 128 small (omega arith) in
    let one : shifted n x ≡ behind n x = ap (λ m. bit_or m x) whole_shift ∙ or_shifted n 16 x (each 0) in
    let below : behind n x < 2 ^ (j + 16) = omega (arith, mul-add-lt n 65536 x (2 ^ j) small (each 0), pow-add 2 j 16) in
    ap (λ m. fold shifted m xs) one ∙ all_behind (j + 16) (behind n x) xs below (omega arith) (λ k. each (suc k))

pub whole_shifted : (gs : List ℕ) → Eight gs → fold shifted 0 gs ≡ whole gs
whole_shifted gs t = all_behind 0 0 gs (omega arith) (omega (arith, t.count)) t.each ∙ ap (fold behind 0) (listed gs t.count) ∙ omega arith
