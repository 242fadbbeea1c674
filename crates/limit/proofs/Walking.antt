-- The walk down the tree counts the units of the set: where it stops early, and that it is the sum over all places.
use Rattle.std.proofs.Common.{◌≡◌, ℕ, zero, suc, ◌+◌, ◌-◌, ◌*◌, ◌/◌, ◌^◌, ◌<◌, ◌≤◌, Bool, true, false, ◌&&◌, refl, ap, ◌∙◌, mul_assoc, add-mul, mul-add, arith, pow_mono}
use native.Mathlib.Nat.{two-pow-succ}
use Rattle.std.proofs.lemmas.Bool.{and_from, and_right, or_left, both_ways, cond-true, cond-false, false_from_ne_true}
use Rattle.space.specs.Bounded.{sum_below}
use Rattle.space.specs.Places.{lies, depth_of, units}
use Rattle.space.specs.Meaning.{Meaning, Sound, is_busy}
use Rattle.space.proofs.Below.{some_none, sum_split, sum_same}
use Rattle.space.proofs.Lies.{lies_left, lies_right, lies_le, lies_self}
use Rattle.space.proofs.Depths.{place_below, depth_half, depth_bounds}
use Rattle.limit.specs.Walk.{sum_under, units_at}

-- a place that is not of the set adds nothing
pub none_at : (d : ℕ) (set : ℕ → Bool) (n : ℕ) → set n ≡ false → units_at d set n ≡ 0
none_at d set n e = cond-false _ _ _ (and_right _ _ e)

-- nothing is added by what lies in n
pub under_none : (h : ℕ) (f : ℕ → ℕ) (n : ℕ) → 0 < n → ((k : ℕ) → lies k n ≡ true → f k ≡ 0) → sum_under h f n ≡ 0
unfolding sum_under
under_none zero f n pos e = e n (lies_self n pos)
under_none (suc h) f n pos e =
    let a = e n (lies_self n pos) in
    let b = under_none h f (2 * n) (omega arith) (λ k l. e k (lies_left k n pos l)) in
    let c = under_none h f (2 * n + 1) (omega arith) (λ k l. e k (lies_right k n pos l)) in
    omega arith

-- nothing is added by what lies in the halves of n
under_alone : (h : ℕ) (f : ℕ → ℕ) (n : ℕ) → 0 < n → ((k : ℕ) → lies k (2 * n) ≡ true → f k ≡ 0) → ((k : ℕ) → lies k (2 * n + 1) ≡ true → f k ≡ 0) → sum_under h f n ≡ f n
unfolding sum_under
under_alone zero f n pos a b = refl
under_alone (suc h) f n pos a b = omega (arith, under_none h f (2 * n) (omega arith) a, under_none h f (2 * n + 1) (omega arith) b)

-- one step down
pub under_step : (h : ℕ) (f : ℕ → ℕ) (n : ℕ) → 0 < h → sum_under h f n ≡ f n + (sum_under (h - 1) f (2 * n) + sum_under (h - 1) f (2 * n + 1))
unfolding sum_under
under_step zero f n pos = absurd (omega arith)
under_step (suc h) f n pos = let e : suc h - 1 ≡ h = omega arith in rw e refl

module _ (m : Meaning) (s : Sound m) where
  -- in a place that is not busy nothing is out
  pub units_idle : (h n : ℕ) → 0 < n → is_busy m n ≡ false → sum_under h (units_at m.depth m.out) n ≡ 0
  units_idle h n pos e =
      under_none h (units_at m.depth m.out) n pos
      (λ k l. none_at m.depth m.out k (false_from_ne_true (m.out k)
      (λ o. both_ways (m.out k && lies k n)
      (some_none (2 ^ (m.depth + 1)) (λ j. m.out j && lies j n) e k (place_below m.depth k (s.inside k o)))
      (and_from (m.out k) (lies k n) o l))))

  -- under a place out nothing else is out
  under_out : (n j : ℕ) → m.out n ≡ true → n < j → ((k : ℕ) → lies k j ≡ true → lies k n ≡ true) → (k : ℕ) → lies k j ≡ true → units_at m.depth m.out k ≡ 0
  under_out n j o lt up k l =
      none_at m.depth m.out k (false_from_ne_true (m.out k)
      (λ ok.
      let same : k ≡ n = s.apart k n ok o (or_left (lies k n) (lies n k) (up k l)) in
      let le : j ≤ k = lies_le k j l in
      omega arith))

  pub units_whole : (h n : ℕ) → 0 < n → m.out n ≡ true → depth_of n + h ≡ m.depth → sum_under h (units_at m.depth m.out) n ≡ 2 ^ h
  units_whole h n pos o high =
      under_alone h (units_at m.depth m.out) n pos
      (under_out n (2 * n) o (omega arith) (λ k e. lies_left k n pos e))
      (under_out n (2 * n + 1) o (omega arith) (λ k e. lies_right k n pos e))
      ∙ cond-true _ _ _ (and_from _ _ (s.inside n o) o)
      ∙ ap (λ x. 2 ^ x) (let e : m.depth - depth_of n ≡ h = omega arith in e)

-- the children of a place that is not of depth 12
pub children_fit : (n d h : ℕ) → 0 < n → 0 < h → depth_of n + h ≡ d → d ≤ 12 → (2 * n < 8191) × (depth_of (2 * n) + (h - 1) ≡ d) × (depth_of (2 * n + 1) + (h - 1) ≡ d)
children_fit n d h pos up e le =
    let t = depth_bounds n pos in
    let p = pow_mono {i = depth_of n + 1} {j = 12} (omega arith) in
    let x : depth_of (2 * n) ≡ depth_of n + 1 = depth_half (2 * n) (omega arith) ∙ ap (λ x. depth_of x + 1) (let e : 2 * n / 2 ≡ n = omega arith in e) in
    let y : depth_of (2 * n + 1) ≡ depth_of n + 1 = depth_half (2 * n + 1) (omega arith) ∙ ap (λ x. depth_of x + 1) (let e : (2 * n + 1) / 2 ≡ n = omega arith in e) in
    (omega (arith, t.1), omega arith, omega arith)

-- the sum over the places d levels under n
unfoldable row : (ℕ → ℕ) → ℕ → ℕ → ℕ
row f d n = sum_below (2 ^ d) (λ i. f (n * 2 ^ d + i))

row_top : (f : ℕ → ℕ) (n : ℕ) → row f 0 n ≡ f n
unfolding row sum_below
row_top f n = let e = ap f (let x : n * 1 + 0 ≡ n = omega arith in x) in omega arith

left_at : (n p i : ℕ) → n * (p + p) + i ≡ 2 * n * p + i
left_at n p i = let a = mul-add n p p in let b = mul_assoc 2 n p in omega arith

right_at : (n p i : ℕ) → n * (p + p) + (p + i) ≡ (2 * n + 1) * p + i
right_at n p i = let a = mul-add n p p in let b = mul_assoc 2 n p in let c = add-mul (2 * n) 1 p in omega arith

row_down : (f : ℕ → ℕ) (d n : ℕ) → row f (suc d) n ≡ row f d (2 * n) + row f d (2 * n + 1)
unfolding row
row_down f d n =
    let p = 2 ^ d in
    let a = sum_same p (λ i. f (n * (p + p) + i)) (λ i. f (2 * n * p + i)) (λ i lt. ap f (left_at n p i)) in
    let b = sum_same p (λ i. f (n * (p + p) + (p + i))) (λ i. f ((2 * n + 1) * p + i)) (λ i lt. ap f (right_at n p i)) in
    rw (two-pow-succ d) (omega (arith, sum_split p p (λ i. f (n * (p + p) + i)), a, b))

row_more : (h : ℕ) (f : ℕ → ℕ) (n : ℕ) → sum_under (suc h) f n ≡ sum_under h f n + row f (suc h) n
unfolding sum_under
row_more zero f n = omega (arith, row_down f 0 n, row_top f (2 * n), row_top f (2 * n + 1))
row_more (suc h) f n = omega (arith, row_down f (suc h) n, row_more h f (2 * n), row_more h f (2 * n + 1))

-- the walk from the root sums over all places
under_root : (d : ℕ) (f : ℕ → ℕ) → f 0 + sum_under d f 1 ≡ sum_below (2 ^ suc d) f
unfolding sum_under sum_below row
under_root zero f = omega arith
under_root (suc d) f =
    let p = 2 ^ suc d in
    let a = sum_same p (λ i. f (1 * p + i)) (λ i. f (p + i)) (λ i lt. ap f (let e : 1 * p + i ≡ p + i = omega arith in e)) in
    rw (two-pow-succ (suc d)) (omega (arith, row_more d f 1, under_root d f, sum_split p p f, a))

pub units_walked : (d : ℕ) (out : ℕ → Bool) → sum_under d (units_at d out) 1 ≡ units d out
units_walked d out =
    let e : d + 1 ≡ suc d = omega arith in
    let w = under_root d (units_at d out) in
    omega (arith, w, ap (λ x. sum_below (2 ^ x) (units_at d out)) e)
