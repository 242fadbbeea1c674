-- Of n's depth, the first place from n on that does not overlap h, where n does; and a search that goes on behind h.
use Rattle.std.proofs.Common.{◌≡◌, ℕ, ◌+◌, ◌-◌, ◌*◌, ◌/◌, ◌%◌, ◌^◌, ◌<◌, ◌≤◌, Bool, true, false, not, sym, refl, ap, ◌∙◌, ⊎_elim, div-mul-le_self, mod-eq_of_lt, pow_pos, pow_mono, arith}
use Rattle.std.proofs.Math.Bool.{or_comm}
use Rattle.std.proofs.lemmas.Nat.{le-div, div_below, shl-shr}
use Rattle.std.proofs.lemmas.Bool.{cases_lt, both_ways, or_cases, or_left, not-true, not-false, not_from_false, false_from_ne_true}
use Rattle.space.specs.Places.{lies, overlap, depth_of}
use Rattle.space.specs.Meaning.{Meaning, answers}
use Rattle.space.proofs.Depths.{depth_le, depth_bounds, depth_halved, halved_pos, place_of}
use Rattle.space.proofs.Lies.{lies_pos, lies_le}
use Rattle.space.proofs.Halving.{lies_halved, lies_by_depths, run_over}
use Rattle.limit.specs.Limits.{held_back, may_follow}
use Rattle.limit.proofs.Opening.{limited-answers}
use Rattle.limit.proofs.Searching.{follow_parts, follow_from, none_below}

-- the hold-back's test
abbrev clear_of : ℕ → ℕ → Bool
clear_of h i = not (overlap i h)

depth_mono : (a b : ℕ) → 0 < a → a ≤ b → depth_of a ≤ depth_of b
depth_mono a b pos le = depth_le (depth_of b) a (place_of (depth_of b) a pos (omega (arith, (depth_bounds b (omega arith)).1)))

-- of two places that overlap, the deeper is halved to the other
halved_over : (a b : ℕ) → depth_of b ≤ depth_of a → overlap a b ≡ true → a / 2 ^ (depth_of a - depth_of b) ≡ b
halved_over a b le o =
    ⊎_elim
    (λ l. (lies_by_depths a b l).2)
    (λ l.
    let t = lies_by_depths b a l in
    let y : depth_of a - depth_of b ≡ 0 = omega (arith, t.1) in
    let z : depth_of b - depth_of a ≡ 0 = omega arith in
    let e : b / 1 ≡ a = ap (λ x. b / 2 ^ x) (sym z) ∙ t.2 in
    ap (λ x. a / 2 ^ x) y ∙ (let d : a / 1 ≡ b = omega arith in d))
    (or_cases (lies a b) (lies b a) o)

overlap_sym : (a b : ℕ) → overlap a b ≡ true → overlap b a ≡ true
overlap_sym a b o = or_comm (lies b a) (lies a b) ∙ o

overlap_pos : (a b : ℕ) → overlap a b ≡ true → 0 < b
overlap_pos a b o = ⊎_elim (lies_pos a b) (λ l. let p = lies_pos b a l in omega (arith, lies_le b a l)) (or_cases (lies a b) (lies b a) o)

module _ (n h k : ℕ) (steps : k ≡ depth_of n - depth_of h) (no : false ≡ not (overlap n h)) where
  o : overlap n h ≡ true
  o = not-false (overlap n h) (sym no)

  -- of n's depth, what overlaps h is halved to the same as n
  halved_same : (j : ℕ) → depth_of j ≡ depth_of n → overlap j h ≡ true → j / 2 ^ k ≡ n / 2 ^ k
  halved_same j d p =
      ⊎_elim
      (λ lt.
      let a = halved_over h n (omega arith) (overlap_sym n h o) in
      let b = halved_over h j (omega arith) (overlap_sym j h p) in
      ap (λ x. x / 2 ^ k) (sym b ∙ ap (λ x. h / 2 ^ (depth_of h - x)) d ∙ a))
      (λ le.
      let a = halved_over n h le o in
      let b = halved_over j h (omega arith) p in
      ap (λ x. j / 2 ^ x) (let e : k ≡ depth_of j - depth_of h = omega arith in e) ∙ b ∙ sym a ∙ ap (λ x. n / 2 ^ x) (sym steps))
      (cases_lt (depth_of n) (depth_of h))

  same_halved : (j : ℕ) → depth_of j ≡ depth_of n → j / 2 ^ k ≡ n / 2 ^ k → overlap j h ≡ true
  same_halved j d e =
      ⊎_elim
      (λ lt.
      let z : k ≡ 0 = omega arith in
      let f : j / 1 ≡ n / 1 = rw z at e in
      let same : j ≡ n = omega arith in
      rw same o)
      (λ le. or_left (lies j h) (lies h j) (lies_halved k j h (overlap_pos n h o) (e ∙ ap (λ x. n / 2 ^ x) steps ∙ halved_over n h le o)))
      (cases_lt (depth_of n) (depth_of h))

  top_pos : 0 < n / 2 ^ k
  top_pos = halved_pos n k (overlap_pos h n (overlap_sym n h o)) (omega arith)

  refused : (j : ℕ) → j < (n / 2 ^ k + 1) * 2 ^ k → may_follow (clear_of h) n j ≡ false
  refused j lt = false_from_ne_true _ (λ t.
      let a = follow_parts (clear_of h) n j t in
      let low = a.0 in
      let up = le-div (n / 2 ^ k) j (2 ^ k) (pow_pos k) (omega (arith, div-mul-le_self n (2 ^ k))) in
      let hi = div_below j (2 ^ k) (n / 2 ^ k + 1) (pow_pos k) lt in
      both_ways (overlap j h) (not-true (overlap j h) a.2) (same_halved j a.1 (omega arith)))

  pub beside_none : (depth_of (n / 2 ^ k + 1) ≡ depth_of (n / 2 ^ k) → ⊥) → (j : ℕ) → may_follow (clear_of h) n j ≡ false
  beside_none last j =
      ⊎_elim
      (refused j)
      (λ ge. false_from_ne_true _ (λ t.
      let a = (follow_parts (clear_of h) n j t).1 in
      let q = le-div (n / 2 ^ k + 1) j (2 ^ k) (pow_pos k) ge in
      let pos = top_pos in
      let c = depth_halved k n pos in
      let d = depth_halved k j (omega arith) in
      let x = depth_mono (n / 2 ^ k) (n / 2 ^ k + 1) pos (omega arith) in
      let y = depth_mono (n / 2 ^ k + 1) (j / 2 ^ k) (omega arith) q in
      last (omega arith)))
      (cases_lt j ((n / 2 ^ k + 1) * 2 ^ k))

  module _ (next : ℕ) (at : next ≡ n / 2 ^ k + 1) (same : depth_of next ≡ depth_of (n / 2 ^ k)) where
    halved_beside : next * 2 ^ k / 2 ^ k ≡ next
    halved_beside = shl-shr next k

    depth_beside : depth_of (next * 2 ^ k) ≡ depth_of n
    depth_beside =
        let e = halved_beside in
        let c = depth_halved k n top_pos in
        let d = depth_halved k (next * 2 ^ k) (omega arith) ∙ ap (λ x. depth_of x + k) e in
        omega arith

    behind : n < next * 2 ^ k
    behind = rw at (run_over k n (n / 2 ^ k) top_pos refl)

    free : overlap (next * 2 ^ k) h ≡ false
    free = false_from_ne_true (overlap (next * 2 ^ k) h) (λ p. let e = halved_same (next * 2 ^ k) depth_beside p in let f = halved_beside in omega arith)

    fits : depth_of n < 64 → next * 2 ^ k < 2 ^ 64
    fits lt =
        let b = behind in
        let d = depth_beside in
        let p = pow_mono {i = depth_of (next * 2 ^ k) + 1} {j = 64} (omega arith) in
        omega (arith, (depth_bounds (next * 2 ^ k) (omega arith)).1)

    pub beside_some : depth_of n < 64 → (may_follow (clear_of h) n (next * 2 ^ k % 2 ^ 64) ≡ true) × ((j : ℕ) → j < next * 2 ^ k % 2 ^ 64 → may_follow (clear_of h) n j ≡ false)
    beside_some lt =
        let b = behind in
        let e : next * 2 ^ k % 2 ^ 64 ≡ next * 2 ^ k = mod-eq_of_lt (fits lt) in
        let none : (j : ℕ) → j < next * 2 ^ k → may_follow (clear_of h) n j ≡ false = λ j low. refused j (rw (← at) low) in
        rw e (follow_from (clear_of h) n (next * 2 ^ k) (omega arith) depth_beside (not_from_false (overlap (next * 2 ^ k) h) free), none)

-- a search so far: nothing answers before r, where all from the first find below up to r overlap h
module _ (m : Meaning) (h w d f from : ℕ) (le : f ≤ from) (before : (k : ℕ) → k < from → answers (held_back m h) w d f k ≡ false) where
  pub held_past : (n r : ℕ) → ((k : ℕ) → k < n → answers m w d from k ≡ false) → ((j : ℕ) → n ≤ j → j < r → overlap j h ≡ true) → (k : ℕ) → k < r → answers (held_back m h) w d f k ≡ false
  held_past n r g o k lt =
      ⊎_elim
      (λ a. none_below m (λ set j. not (overlap j h)) w d f from le before k (g k a))
      (λ b. false_from_ne_true (answers (held_back m h) w d f k) (λ t.
      both_ways (overlap k h) (not-true (overlap k h) (limited-answers m (λ set j. not (overlap j h)) w d f 0 k (omega arith) t).1) (o k b lt)))
      (cases_lt k n)
