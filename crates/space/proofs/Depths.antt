-- The depth of a place, by its binary digits and by halving.
use Rattle.std.proofs.Common.{◌≡◌, ℕ, zero, suc, ◌+◌, ◌*◌, ◌/◌, ◌^◌, ◌<◌, ◌≤◌, true, ltb, leb, sym, refl, ap, ⊎_elim, arith, pow_pos, pow_mono, shr-shr}
use native.Mathlib.Nat.{two-pow-succ}
use Rattle.std.proofs.lemmas.Nat.{shr_le, le-div}
use Rattle.std.proofs.lemmas.Bool.{cases_eq, cases_lt, and_parts, and_from, ltb-true, leb-true, lt-ltb, le-ltb, le-leb}
use Rattle.space.specs.Places.{is_place, at_depth, depth_by, depth_of}
use Rattle.space.proofs.Truth.{same_test}

pub pow_more : (k : ℕ) → 2 ^ (k + 1) ≡ 2 ^ k + 2 ^ k
pow_more k = let e : k + 1 ≡ suc k = omega arith in rw e (two-pow-succ k)

-- halving once, and then k times
pub half_more : (n k : ℕ) → n / 2 ^ suc k ≡ n / 2 / 2 ^ k
half_more n k = let e : suc k ≡ 1 + k = omega arith in rw e (sym (shr-shr n 1 k))

pub place_below : (d n : ℕ) → is_place d n ≡ true → n < 2 ^ (d + 1)
place_below d n e = ltb-true n (2 ^ (d + 1)) (and_parts (ltb 0 n) _ e).1

pub place_pos : (d n : ℕ) → is_place d n ≡ true → 0 < n
place_pos d n e = ltb-true 0 n (and_parts (ltb 0 n) _ e).0

pub place_of : (d n : ℕ) → 0 < n → n < 2 ^ (d + 1) → is_place d n ≡ true
place_of d n a b = and_from _ _ (lt-ltb 0 n a) (lt-ltb n (2 ^ (d + 1)) b)

-- the depth of a place
depth_fuel : (j k n : ℕ) → n ≤ j → n ≤ k → depth_by j n ≡ depth_by k n
unfolding depth_by
depth_fuel zero zero n a b = refl
depth_fuel zero (suc k) n a b = let z : n ≡ 0 = omega arith in rw z refl
depth_fuel (suc j) zero n a b = let z : n ≡ 0 = omega arith in rw z refl
depth_fuel (suc j) (suc k) n a b =
    ⊎_elim
    (λ lt. let t = lt-ltb 1 n lt in rw t (ap suc (depth_fuel j k (n / 2) (omega arith) (omega arith))))
    (λ le. let t = le-ltb 1 n le in rw t refl)
    (cases_lt 1 n)

pub depth_half : (n : ℕ) → 1 < n → depth_of n ≡ depth_of (n / 2) + 1
unfolding depth_by
depth_half zero h = absurd (omega arith)
depth_half (suc n) h =
    let t = lt-ltb 1 (suc n) h in
    let e = depth_fuel n (suc n / 2) (suc n / 2) (omega arith) (omega arith) in
    rw t (omega (arith, e))

pub depth_top : (n : ℕ) → n ≤ 1 → depth_of n ≡ 0
unfolding depth_by
depth_top zero h = refl
depth_top (suc n) h = let t = le-ltb 1 (suc n) h in rw t refl

-- the places of a depth, by that depth
bounds_by : (j n : ℕ) → n ≤ j → 0 < n → (2 ^ depth_of n ≤ n) × (n < 2 ^ (depth_of n + 1))
bounds_by zero n le pos = absurd (omega arith)
bounds_by (suc j) n le pos =
    ⊎_elim
    (λ lt.
    let h = depth_of (n / 2) in
    let e : depth_of n ≡ h + 1 = depth_half n lt in
    let x : 2 ^ depth_of n ≡ 2 ^ (h + 1) = ap (λ x. 2 ^ x) e in
    let y : 2 ^ (depth_of n + 1) ≡ 2 ^ (h + 1 + 1) = ap (λ x. 2 ^ (x + 1)) e in
    let ih = bounds_by j (n / 2) (omega arith) (omega arith) in
    let p = pow_more h in
    let q = pow_more (h + 1) in
    (omega arith, omega arith))
    (λ ge.
    let e = depth_top n ge in
    let x : 2 ^ depth_of n ≡ 1 = ap (λ x. 2 ^ x) e in
    let y : 2 ^ (depth_of n + 1) ≡ 2 = ap (λ x. 2 ^ (x + 1)) e in
    (omega arith, omega arith))
    (cases_lt 1 n)

pub depth_bounds : (n : ℕ) → 0 < n → (2 ^ depth_of n ≤ n) × (n < 2 ^ (depth_of n + 1))
depth_bounds n pos = bounds_by n n (omega arith) pos

pow_below : (a b : ℕ) → 2 ^ a < 2 ^ b → a < b
pow_below a b lt = ⊎_elim (λ l. l) (λ le. absurd (let m : 2 ^ b ≤ 2 ^ a = pow_mono le in omega arith)) (cases_lt a b)

pub depth_is : (d n : ℕ) → 2 ^ d ≤ n → n < 2 ^ (d + 1) → depth_of n ≡ d
depth_is d n a b =
    let p = pow_pos d in
    let t = depth_bounds n (omega arith) in
    omega (arith, pow_below d (depth_of n + 1) (omega (arith, t.1)), pow_below (depth_of n) (d + 1) (omega (arith, t.0)))

pub depth_log : (d n : ℕ) → 2 ^ d ≤ n → n < 2 * 2 ^ d → depth_of n ≡ d
depth_log d n a b = depth_is d n a (let p = pow_more d in omega arith)

pub depth_at : (d n : ℕ) → at_depth d n ≡ true → depth_of n ≡ d
depth_at d n e =
    let t = and_parts (leb (2 ^ d) n) _ e in
    depth_is d n (leb-true (2 ^ d) n t.0) (ltb-true n (2 ^ (d + 1)) t.1)

pub depth_le : (d n : ℕ) → is_place d n ≡ true → depth_of n ≤ d
depth_le d n e = omega (arith, pow_below (depth_of n) (d + 1) (omega (arith, (depth_bounds n (place_pos d n e)).0, place_below d n e)))

-- halving k times takes k off the depth, as long as something is left
pub depth_halved : (k n : ℕ) → 0 < n / 2 ^ k → depth_of n ≡ depth_of (n / 2 ^ k) + k
depth_halved zero n h = let d : n / 2 ^ 0 ≡ n = omega arith in rw d (omega arith)
depth_halved (suc k) n h =
    let e = half_more n k in
    let g : 0 < n / 2 / 2 ^ k = omega arith in
    let le = shr_le (n / 2) k in
    let ih = depth_halved k (n / 2) g in
    let s = depth_half n (omega arith) in
    let q = ap depth_of e in
    omega arith

-- as many halvings leave something
pub halved_pos : (n k : ℕ) → 0 < n → k ≤ depth_of n → 0 < n / 2 ^ k
halved_pos n k pos le =
    let m : 2 ^ k ≤ 2 ^ depth_of n = pow_mono le in
    let b = depth_bounds n pos in
    le-div 1 n (2 ^ k) (pow_pos k) (omega (arith, b.0))

-- and one more leaves nothing
pub halved_none : (n k : ℕ) → depth_of n < k → n / 2 ^ k ≡ 0
halved_none n k lt =
    ⊎_elim (λ z. z) (λ nz. absurd (omega (arith, depth_halved k n (omega arith)))) (cases_eq (n / 2 ^ k) 0)

-- the depth says whether it is a place
pub place_within : (d n : ℕ) → 0 < n → depth_of n ≤ d → n < 2 ^ (d + 1)
place_within d n pos le =
    let more : depth_of n + 1 ≤ d + 1 = omega arith in
    let m : 2 ^ (depth_of n + 1) ≤ 2 ^ (d + 1) = pow_mono more in
    omega (arith, (depth_bounds n pos).1)

pub place_by_depth : (d n : ℕ) → 0 < n → leb (depth_of n) d ≡ is_place d n
place_by_depth d n pos =
    same_test (leb (depth_of n) d) (is_place d n)
    (λ e. place_of d n pos (place_within d n pos (leb-true (depth_of n) d e)))
    (λ e. le-leb (depth_of n) d (depth_le d n e))
