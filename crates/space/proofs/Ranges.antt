-- The places of one depth that lie in a place are a range of numbers, so that a search goes through a range.
use Rattle.std.proofs.Common.{◌≡◌, ℕ, suc, ◌+◌, ◌-◌, ◌*◌, ◌/◌, ◌^◌, ◌<◌, ◌≤◌, true, false, Some, None, Option, sym, ap, ◌∙◌, ap₂, ⊎_elim, add-mul, mul-add, arith, pow_mono, MatchOption}
use native.Mathlib.Nat.{two-pow-succ}
use Rattle.std.proofs.lemmas.Nat.{div-mul-add, shr_split, shl-shr, mod_below, mul-le, pow-add, pow_pos}
use Rattle.std.proofs.lemmas.Bool.{cases_eq, cases_lt, and_from, or_left, or_right, both_ways, le-leb, lt-ltb}
use Rattle.space.specs.Places.{lies, overlap, is_place, at_depth, depth_of, size}
use Rattle.space.specs.Meaning.{Meaning, Least, Free, blocked, answers}
use Rattle.space.proofs.Lies.{lies_each, lies_le, lies_pos}
use Rattle.space.proofs.Halving.{lies_halved, lies_by_depths, lies_nested}
use Rattle.space.proofs.Depths.{depth_at, depth_half, depth_bounds, place_of}
use Rattle.space.proofs.Opening.{no_answer, answer_from, answer_parts, open_parts, open_from, open_below}

pub size_pos : (d n : ℕ) → 0 < size d n
size_pos d n = pow_pos (d - depth_of n)

module _ (w d : ℕ) (pos : 0 < w) (high : depth_of w ≤ d) where
  -- the range, w * size d w and the numbers after it, is of depth d
  pub range_within : (2 ^ d ≤ w * size d w) × (w * size d w + size d w ≤ 2 ^ (d + 1))
  range_within =
      let h = depth_of w in
      let s = size d w in
      let b = depth_bounds w pos in
      let e : h + (d - h) ≡ d = omega arith in
      let f : h + 1 + (d - h) ≡ d + 1 = omega arith in
      let x : 2 ^ d ≡ 2 ^ h * s = ap (λ x. 2 ^ x) (sym e) ∙ pow-add 2 h (d - h) in
      let y : 2 ^ (d + 1) ≡ 2 ^ (h + 1) * s = ap (λ x. 2 ^ x) (sym f) ∙ pow-add 2 (h + 1) (d - h) in
      let m : 2 ^ h * s ≤ w * s = mul-le (2 ^ h) s w s b.0 (omega arith) in
      let n : (w + 1) * s ≤ 2 ^ (h + 1) * s = mul-le (w + 1) s (2 ^ (h + 1)) s (omega (arith, b.1)) (omega arith) in
      let a = add-mul w 1 s in
      (omega arith, omega arith)

  pub range_at : (k : ℕ) → w * size d w ≤ k → k < w * size d w + size d w → at_depth d k ≡ true
  range_at k lo hi =
      let r = range_within in
      and_from _ _ (le-leb (2 ^ d) k (omega (arith, r.0))) (lt-ltb k (2 ^ (d + 1)) (omega (arith, r.1)))

-- what is in the range lies in the place
pub range_lies : (d n k : ℕ) → 0 < n → n * size d n ≤ k → k < n * size d n + size d n → lies k n ≡ true
range_lies d n k pos lo hi =
    let b = k - n * size d n in
    let e : k ≡ n * size d n + b = omega arith in
    lies_halved (d - depth_of n) k n pos (ap (λ x. x / size d n) e ∙ div-mul-add n (size d n) b (omega arith))

-- two places that have a place in common overlap
pub lies_both : (l a b : ℕ) → 0 < a → 0 < b → lies l a ≡ true → lies l b ≡ true → overlap a b ≡ true
lies_both l a b pa pb x y =
    ⊎_elim
    (λ lt. or_right (lies a b) (lies b a) (lies_nested l a b (omega arith) pa x y))
    (λ le. or_left (lies a b) (lies b a) (lies_nested l b a le pb y x))
    (cases_lt a b)

-- a place that lies in another has its range in that of the other
half_range : (d n : ℕ) → 1 < n → depth_of n ≤ d → (n / 2 * size d (n / 2) ≤ n * size d n) × (n * size d n + size d n ≤ n / 2 * size d (n / 2) + size d (n / 2))
half_range d n lt lv =
    let e = depth_half n lt in
    let h = d - depth_of n in
    let q = n / 2 in
    let t : size d q ≡ 2 ^ h + 2 ^ h = ap (λ x. 2 ^ x) (let z : d - depth_of q ≡ suc h = omega arith in z) ∙ two-pow-succ h in
    let m : q * size d q ≡ q * 2 ^ h + q * 2 ^ h = ap (λ x. q * x) t ∙ mul-add q (2 ^ h) (2 ^ h) in
    let d2 : (q + q) * 2 ^ h ≡ q * 2 ^ h + q * 2 ^ h = add-mul q q (2 ^ h) in
    ⊎_elim
    (λ even. let z : n * 2 ^ h ≡ (q + q) * 2 ^ h = ap (λ x. x * 2 ^ h) (let y : n ≡ q + q = omega arith in y) in (omega arith, omega arith))
    (λ odd. let z : n * 2 ^ h ≡ (q + q) * 2 ^ h + 1 * 2 ^ h = ap (λ x. x * 2 ^ h) (let y : n ≡ (q + q) + 1 = omega arith in y) ∙ add-mul (q + q) 1 (2 ^ h) in (omega arith, omega arith))
    (cases_eq n (q + q))

pub range_nests : (d n k : ℕ) → depth_of n ≤ d → lies n k ≡ true → (k * size d k ≤ n * size d n) × (n * size d n + size d n ≤ k * size d k + size d k)
range_nests d n k lv l = lies_each In k (λ _. (omega arith, omega arith)) up n l lv
  where
    In : ℕ → Type 0
    In x = depth_of x ≤ d → (k * size d k ≤ x * size d x) × (x * size d x + size d x ≤ k * size d k + size d k)

    up : (x : ℕ) → k < x → lies (x / 2) k ≡ true → In (x / 2) → In x
    up x lt half ih le =
        let above = lies_le (x / 2) k half in
        let pos = lies_pos (x / 2) k half in
        let big = ih (let e = depth_half x (omega arith) in omega arith) in
        let s = half_range d x (omega arith) le in
        (omega (arith, big.0, s.0), omega (arith, big.1, s.1))

-- a range says whose it is
pub same_range : (d n k : ℕ) → n * size d n ≡ k * size d k → size d n ≡ size d k → n ≡ k
same_range d n k e s = sym (shl-shr n (d - depth_of n)) ∙ ap₂ (λ x y. x / y) e s ∙ shl-shr k (d - depth_of k)

-- what lies in w and is of depth d is in the range
pub lies_range : (w d k : ℕ) → at_depth d k ≡ true → lies k w ≡ true → (depth_of w ≤ d) × (w * size d w ≤ k) × (k < w * size d w + size d w)
lies_range w d k at l =
    let e = depth_at d k at in
    let t = lies_by_depths k w l in
    let s = size d w in
    let q : k / s ≡ w = ap (λ x. k / 2 ^ (x - depth_of w)) (sym e) ∙ t.2 in
    let m : k / s * s ≡ w * s = ap (λ x. x * s) q in
    let p = shr_split k (d - depth_of w) in
    let r = mod_below k s (pow_pos (d - depth_of w)) in
    (omega (arith, t.1), omega arith, omega arith)

-- a search is answered in a place of the space only
pub answer_place : (m : Meaning) (w d f k : ℕ) → answers m w d f k ≡ true → is_place m.depth w ≡ true
answer_place m w d f k e =
    let a = answer_parts m w d f k e in
    let le = lies_le k w a.under in
    let lt = open_below m k a.is in
    place_of m.depth w (lies_pos k w a.under) (omega arith)

pub answer_high : (m : Meaning) (w d f k : ℕ) → d < depth_of w → answers m w d f k ≡ false
answer_high m w d f k lt = no_answer m w d f k (λ a. let r = lies_range w d k a.at a.under in omega (arith, r.0))

-- where the rule says yes, the answers are the numbers of the range, from f on, that are not blocked;
-- `a` is the larger of f and the first of the range
module _ (m : Meaning) (w d f a : ℕ) (yes : (k : ℕ) → m.rule m.out k ≡ true) (pos : 0 < w) (high : depth_of w ≤ d) (deep : d ≤ m.depth)
    (from : f ≤ a) (over : w * size d w ≤ a) (least : (j : ℕ) → f ≤ j → w * size d w ≤ j → a ≤ j) where
  range_answer : (k : ℕ) → a ≤ k → k < w * size d w + size d w → blocked m k ≡ false → answers m w d f k ≡ true
  range_answer k lo hi free =
      let r = range_within w d pos high in
      let p = pow_pos d in
      let more : d + 1 ≤ m.depth + 1 = omega arith in
      let top : 2 ^ (d + 1) ≤ 2 ^ (m.depth + 1) = pow_mono more in
      answer_from m w d f k (record {
        at = range_at w d pos high k (omega arith) hi;
        under = range_lies d w k pos (omega arith) hi;
        from = omega arith;
        is = open_from m k (record { at = place_of m.depth k (omega (arith, r.0)) (omega (arith, r.1)); free = free; allowed = yes k });
      })

  range_none : (k : ℕ) → (a ≤ k → k < w * size d w + size d w → blocked m k ≡ true) → answers m w d f k ≡ false
  range_none k all = no_answer m w d f k (λ t.
      let r = lies_range w d k t.at t.under in
      both_ways (blocked m k) (open_parts m k t.is).free (all (least k t.from r.1) r.2))

-- the answer, by what the walk through the range found
pub found : (m : Meaning) (w d f a e : ℕ) (r : Option ℕ) → MatchOption r ((j : ℕ) → a ≤ j → j < e → blocked m j ≡ true) (Free m a e)
    → ((k : ℕ) → m.rule m.out k ≡ true) → 0 < w → depth_of w ≤ d → d ≤ m.depth → f ≤ a → w * size d w ≤ a
    → ((j : ℕ) → f ≤ j → w * size d w ≤ j → a ≤ j) → e ≡ w * size d w + size d w → Least r (answers m w d f)
found m w d f a e (Some k) h allowed pos high deep from over least q =
    (range_answer m w d f a allowed pos high deep from over least k h.from (omega (arith, h.to)) h.free, λ j lt. range_none m w d f a allowed pos high deep from over least j (λ lo hi. h.before j lo lt))
found m w d f a e None h allowed pos high deep from over least q =
    λ k. range_none m w d f a allowed pos high deep from over least k (λ lo hi. h k lo (omega arith))
