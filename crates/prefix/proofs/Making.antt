-- What address and length make, test by test, at any width.
use Rattle.std.proofs.Common.{◌≡◌, ℕ, ◌-◌, ◌%◌, ◌^◌, ◌<◌, ◌≤◌, min, false, Some, None, mod-eq_of_lt, arith}
use Rattle.std.proofs.lemmas.Nat.{shr_split}
use Rattle.std.proofs.lemmas.Bool.Decides.{nat_tests}
use Rattle.fault.specs.declared.Cause.TheVariants.{HostBitSet}
use Rattle.prefix.specs.Bits.{cleared}
use Rattle.prefix.specs.Form.{Block}
use Rattle.prefix.specs.Prefixes.{refusal, contains, covers}

pub refusal_host : (w n l : ℕ) → l ≤ w → (n % 2 ^ (w - l) ≡ 0 → ⊥) → refusal w n l ≡ Some HostBitSet
refusal_host w n l h f = grind (arith, nat_tests)

pub refusal_none : (w n l : ℕ) → l ≤ w → n % 2 ^ (w - l) ≡ 0 → refusal w n l ≡ None
refusal_none w n l h e = grind (arith, nat_tests)

-- an address with no bit set behind l is its first l bits
pub cleared_same : (w l n : ℕ) → n % 2 ^ (w - l) ≡ 0 → cleared w l n ≡ n
cleared_same w l n e = omega (arith, shr_split n (w - l))

pub cleared_rest : (w l n : ℕ) → n - n % 2 ^ (w - l) ≡ cleared w l n
cleared_rest w l n = omega (arith, shr_split n (w - l))

-- what is left of an address without its bits behind l, or behind w, is its first l bits
pub cleared_less : (w l n a : ℕ) → n < 2 ^ w → a ≡ (n - n % 2 ^ (w - min l w)) % 2 ^ w → a ≡ cleared w l n
cleared_less w l n a small e =
    let b : w - min l w ≡ w - l = omega arith in
    let k = cleared_rest w l n in
    rw (e, b, k) (mod-eq_of_lt {n = cleared w l n} {m = 2 ^ w} (omega (arith, k)))

pub covers_longer : (w : ℕ) (b c : Block) → b.length ≤ c.length → covers w b c ≡ contains w b c.first
covers_longer w b c h = grind (arith, nat_tests)

pub covers_shorter : (w : ℕ) (b c : Block) → c.length < b.length → covers w b c ≡ false
covers_shorter w b c h = grind (arith, nat_tests)

pub block_same : (a b l m : ℕ) → a ≡ b → l ≡ m → ◌≡◌ {A = Block} (record { first = a; length = l }) (record { first = b; length = m })
block_same a b l m e f = cc
