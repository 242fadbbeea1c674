-- Shifts of a number, past its width too: where k is too many for 128 bits, nothing is left, and 0 stands for it.
use Rattle.std.proofs.Common.{◌≡◌, ℕ, ◌+◌, ◌-◌, ◌*◌, ◌/◌, ◌%◌, ◌^◌, ◌<◌, ◌≤◌, Option, Some, None, sym, mod-eq_of_lt, mul_assoc, pow_mono, pow-add, arith}
use Rattle.std.specs.Option.{SomeIff, unwrap_or}
use Rattle.std.proofs.Math.Nat.{div-eq_of_lt, mul-mod_left}

-- a number below 2 ^ w has no bits above w
pub div_past : (w n k : ℕ) → n < 2 ^ w → w ≤ k → n / 2 ^ k ≡ 0
div_past w n k small h = let p = pow_mono {i = w} {j = k} h in div-eq_of_lt {n = n} {m = 2 ^ k} (omega arith)

pub mod_past : (w n k : ℕ) → n < 2 ^ w → w ≤ k → n % 2 ^ k ≡ n
mod_past w n k small h = let p = pow_mono {i = w} {j = k} h in mod-eq_of_lt {n = n} {m = 2 ^ k} (omega arith)

pub low_whole : (n k : ℕ) → n < 2 ^ 128 → 128 ≤ k → n % 2 ^ k ≡ n
low_whole n k small far = mod_past 128 n k small far

pub shr_or_none : (o : Option ℕ) (n k : ℕ) → n < 2 ^ 128 → SomeIff o (k < 128) (n / 2 ^ k) → unwrap_or o 0 ≡ n / 2 ^ k
shr_or_none None n k small far = sym (div_past 128 n k small (omega arith))
shr_or_none (Some x) n k small near = near.1

-- raised by w bits or more, nothing is left of it below w
pub raised_past : (w n k : ℕ) → w ≤ k → (n * 2 ^ k) % 2 ^ w ≡ 0
raised_past w n k h =
    let e : k ≡ (k - w) + w = omega arith in
    let p = pow-add 2 (k - w) w in
    rw (e, p, ← mul_assoc n (2 ^ (k - w)) (2 ^ w)) (mul-mod_left (n * 2 ^ (k - w)) (2 ^ w))

pub shl_or_none : (o : Option ℕ) (n k : ℕ) → SomeIff o (k < 128) ((n * 2 ^ k) % 2 ^ 128) → unwrap_or o 0 ≡ (n * 2 ^ k) % 2 ^ 128
shl_or_none None n k far = sym (raised_past 128 n k (omega arith))
shl_or_none (Some x) n k near = near.1
