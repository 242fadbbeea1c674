-- Tests and sums over the numbers below a bound.
use Rattle.std.proofs.Common.{◌≡◌, ℕ, zero, suc, ◌+◌, ◌^◌, ◌<◌, Bool, true, false, sym, refl, ap, ◌∙◌, ⊎_elim, arith}
use native.Mathlib.Nat.{two-pow-succ}
use Rattle.std.proofs.lemmas.Bool.{cases_eq, or_cases, or_parts, or_from, or_left, or_right, both_ways}
use Rattle.space.specs.Bounded.{some_below, sum_below}

pub some_none : (n : ℕ) (p : ℕ → Bool) → some_below n p ≡ false → (k : ℕ) → k < n → p k ≡ false
unfolding some_below
some_none zero p e k lt = absurd (omega arith)
some_none (suc n) p e k lt =
    let o = or_parts (p n) (some_below n p) e in
    ⊎_elim (λ q. rw q o.0) (λ ne. some_none n p o.1 k (omega arith)) (cases_eq k n)

pub some_here : (n : ℕ) (p : ℕ → Bool) (k : ℕ) → k < n → p k ≡ true → some_below n p ≡ true
unfolding some_below
some_here zero p k lt e = absurd (omega arith)
some_here (suc n) p k lt e =
    ⊎_elim
    (λ q. or_left (p n) (some_below n p) (ap p (sym q) ∙ e))
    (λ ne. or_right (p n) (some_below n p) (some_here n p k (omega arith) e))
    (cases_eq k n)

pub some_has : (n : ℕ) (p : ℕ → Bool) → some_below n p ≡ true → (k : ℕ) × (k < n) × (p k ≡ true)
unfolding some_below
some_has zero p e = absurd (both_ways false refl e)
some_has (suc n) p e =
    ⊎_elim
    (λ x. (n, omega arith, x))
    (λ x. let t = some_has n p x in (t.0, omega (arith, t.1), t.2))
    (or_cases (p n) (some_below n p) e)

pub none_below : (n : ℕ) (p : ℕ → Bool) → ((k : ℕ) → k < n → p k ≡ false) → some_below n p ≡ false
unfolding some_below
none_below zero p f = refl
none_below (suc n) p f = or_from (p n) (some_below n p) (f n (omega arith)) (none_below n p (λ k lt. f k (omega arith)))

pub sum_split : (a b : ℕ) (f : ℕ → ℕ) → sum_below (a + b) f ≡ sum_below a f + sum_below b (λ i. f (a + i))
unfolding sum_below
sum_split a zero f = let e : a + 0 ≡ a = omega arith in rw e (let z : sum_below a f ≡ sum_below a f + 0 = omega arith in z)
sum_split a (suc b) f =
    let e : a + suc b ≡ suc (a + b) = omega arith in
    let ih = sum_split a b f in
    rw e (let z : f (a + b) + sum_below (a + b) f ≡ sum_below a f + (f (a + b) + sum_below b (λ i. f (a + i))) = omega (arith, ih) in z)

pub sum_same : (n : ℕ) (f g : ℕ → ℕ) → ((k : ℕ) → k < n → f k ≡ g k) → sum_below n f ≡ sum_below n g
unfolding sum_below
sum_same zero f g h = refl
sum_same (suc n) f g h =
    let a = h n (omega arith) in
    let b = sum_same n f g (λ k lt. h k (omega arith)) in
    omega arith

pub sum_first : (n : ℕ) (f : ℕ → ℕ) → sum_below (suc n) f ≡ f 0 + sum_below n (λ i. f (suc i))
unfolding sum_below
sum_first zero f = refl
sum_first (suc n) f = let ih = sum_first n f in let g : sum_below (suc n) f ≡ f n + sum_below n f = refl in omega arith

pub sum_add : (n : ℕ) (f g : ℕ → ℕ) → sum_below n (λ i. f i + g i) ≡ sum_below n f + sum_below n g
unfolding sum_below
sum_add zero f g = refl
sum_add (suc n) f g = let ih = sum_add n f g in omega arith

pub sum_none : (x : ℕ) (f : ℕ → ℕ) → x + sum_below 0 f ≡ x
unfolding sum_below
sum_none x f = omega arith

-- the numbers below a power of two, depth by depth
pub sum_by_depth : (d : ℕ) (f : ℕ → ℕ) → sum_below (2 ^ d) f ≡ f 0 + sum_below d (λ e. sum_below (2 ^ e) (λ i. f (2 ^ e + i)))
unfolding sum_below
sum_by_depth zero f = refl
sum_by_depth (suc d) f =
    let ih = sum_by_depth d f in
    let s = sum_split (2 ^ d) (2 ^ d) f in
    rw (two-pow-succ d) (let z : sum_below (2 ^ d + 2 ^ d) f ≡ f 0 + (sum_below (2 ^ d) (λ i. f (2 ^ d + i)) + sum_below d (λ e. sum_below (2 ^ e) (λ i. f (2 ^ e + i)))) = omega arith in z)
