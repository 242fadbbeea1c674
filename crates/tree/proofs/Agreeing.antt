-- When a byte agrees with those below it, and what set and clear bytes say of the places below.
use Rattle.std.proofs.Common.{◌≡◌, ℕ, zero, suc, ◌+◌, ◌*◌, ◌^◌, ◌<◌, ◌≤◌, true, false, cond, eqb, List, refl, ap, ⊎_elim, arith, pow_pos}
use Rattle.std.proofs.lemmas.Bool.{cases_eq, cases_lt, ltb-true, ne_eqb, lt-ltb, le-ltb}
use Rattle.std.proofs.lemmas.Bool.Decides.{nat_tests}
use Rattle.space.specs.Places.{lies}
use Rattle.space.proofs.Lies.{lies_self, lies_left, lies_right, lies_le}
use Rattle.space.proofs.Depths.{pow_more, place_of}
use Rattle.tree.specs.Tree.{byte, agrees, node, Tidy}
use Rattle.tree.specs.Sound.{Out, inner, under}

-- a byte that is neither 1 nor 0 is 2, over some byte that is set
pub agrees_two : (a s : ℕ) → agrees true a s ≡ true → (a ≡ 1 → ⊥) → (a ≡ 0 → ⊥) → (a ≡ 2) × (0 < s)
unfolding agrees
agrees_two a s e h z = grind (arith, nat_tests)

pub one_agrees : (s : ℕ) → s ≡ 0 → agrees true 1 s ≡ true
unfolding agrees
one_agrees s e = rw e refl

pub none_agrees : (s : ℕ) → s ≡ 0 → agrees true 0 s ≡ true
unfolding agrees
none_agrees s e = rw e refl

pub two_agrees : (s : ℕ) → 0 < s → agrees true 2 s ≡ true
unfolding agrees
two_agrees s h = rw (ne_eqb s 0 (λ z. omega arith)) refl

pub leaf_agrees : (a s : ℕ) → a < 2 → agrees false a s ≡ true
unfolding agrees
leaf_agrees a s h = lt-ltb a 2 h

-- a node that is 1 or 0, with nothing below
pub low_node : (d : ℕ) (b : List ℕ) (n : ℕ) → byte b n < 2 → (n < 2 ^ d → byte b (2 * n) + byte b (2 * n + 1) ≡ 0) → node d b n ≡ true
unfolding agrees
low_node d b n low none = ⊎_elim
    (λ lt. let z = none lt in grind (arith, nat_tests))
    (λ le. rw (le-ltb n (2 ^ d) le) (lt-ltb (byte b n) 2 low))
    (cases_lt n (2 ^ d))

-- a byte made from those below it
pub above_agrees : (s v : ℕ) → v ≡ cond (eqb s 0) 0 2 → agrees true v s ≡ true
unfolding agrees
above_agrees s v e = grind (arith, nat_tests)

pub above_no_one : (s v : ℕ) → v ≡ cond (eqb s 0) 0 2 → v ≡ 1 → ⊥
above_no_one s v e one = grind (arith, nat_tests)

module _ (d : ℕ) (b : List ℕ) (tidy : Tidy d b) where
  pub bottom : (n : ℕ) → 2 ^ d ≤ n → n < 2 ^ (d + 1) → byte b n < 2
  unfolding agrees
  bottom n le lt = let q = pow_pos d in ltb-true (byte b n) 2 (rw (le-ltb n (2 ^ d) le) at (tidy n (place_of d n (omega arith) lt)))

  -- a byte that is neither 1 nor 0 is 2, and has a set one below it
  pub two : (n : ℕ) → 0 < n → n < 2 ^ (d + 1) → (byte b n ≡ 1 → ⊥) → (byte b n ≡ 0 → ⊥) → (n < 2 ^ d) × (byte b n ≡ 2) × (0 < byte b (2 * n) + byte b (2 * n + 1))
  two n pos low not-one nz =
      ⊎_elim
      (λ lt. let t = agrees_two (byte b n) _ (inner d b tidy n pos lt) not-one nz in (lt, t.0, t.1))
      (λ le. absurd (let x = bottom n le low in omega arith))
      (cases_lt n (2 ^ d))

  -- below a clear byte no place is out, and a set byte has a place out in it
  pub zero_under : (n : ℕ) → 0 < n → byte b n ≡ 0 → (k : ℕ) → Out d b k → lies k n ≡ true → ⊥
  zero_under n pos z k o l =
      ⊎_elim (λ e. omega (arith, o.one, ap (byte b) e)) (λ ne. omega (arith, o.one, under d b tidy n pos (omega arith) k l ne o.low)) (cases_eq k n)

  set_has_by : (j w : ℕ) → 2 ^ (d + 1) ≤ w + j → 0 < w → w < 2 ^ (d + 1) → (byte b w ≡ 0 → ⊥) → (k : ℕ) × (k < 2 ^ (d + 1)) × (byte b k ≡ 1) × (lies k w ≡ true)
  set_has_by zero w le pos lt nz = absurd (omega arith)
  set_has_by (suc j) w le pos lt nz =
      ⊎_elim
      (λ one. (w, lt, one, lies_self w pos))
      (λ other.
      let s = two w pos lt other nz in
      let p = pow_more d in
      ⊎_elim
      (λ z. let t = set_has_by j (2 * w + 1) (omega arith) (omega arith) (omega (arith, s.0)) (λ y. omega (arith, s.2)) in (t.0, t.1, t.2, lies_right t.0 w pos t.3))
      (λ y. let t = set_has_by j (2 * w) (omega arith) (omega arith) (omega (arith, s.0)) y in (t.0, t.1, t.2, lies_left t.0 w pos t.3))
      (cases_eq (byte b (2 * w)) 0))
      (cases_eq (byte b w) 1)

  pub set_has : (w : ℕ) → 0 < w → w < 2 ^ (d + 1) → (byte b w ≡ 0 → ⊥) → (k : ℕ) × (k < 2 ^ (d + 1)) × (byte b k ≡ 1) × (lies k w ≡ true)
  set_has w pos lt nz = set_has_by (2 ^ (d + 1)) w (omega arith) pos lt nz

  pub out_in : (w : ℕ) → 0 < d → 0 < w → w < 2 ^ (d + 1) → (byte b w ≡ 0 → ⊥) → (k : ℕ) × Out d b k × (lies k w ≡ true)
  out_in w live pos lt nz =
      let t = set_has w pos lt nz in
      (t.0, record { live = live; pos = omega (arith, lies_le t.0 w t.3); low = t.1; one = t.2 }, t.3)
