-- What is open, what answers a search, and what a set is after a change.
use Rattle.std.proofs.Common.{◌≡◌, ℕ, ◌+◌, ◌^◌, ◌<◌, ◌≤◌, Bool, true, false, not, leb, sym, ap, ⊎_elim, arith}
use mathlib.Core.Path.{fun_ext}
use Rattle.std.proofs.lemmas.Bool.{cases_eq, and_parts, and_from, leb-true, le-leb, not-true, not_from_false, cond-true, false_from_ne_true}
use Rattle.std.proofs.lemmas.Bool.Decides.{nat_tests}
use Rattle.space.specs.Places.{lies, is_place, at_depth, depth_of}
use Rattle.space.specs.Meaning.{Meaning, is_open, blocked, answers, removing, adding, having, after_take, after_give}
use Rattle.space.proofs.Depths.{place_below, depth_at, depth_le}

pub record Open (m : Meaning) (n : ℕ) : Type 0 where
  pub at : is_place m.depth n ≡ true
  pub free : blocked m n ≡ false
  pub allowed : m.rule m.out n ≡ true

module _ (m : Meaning) (n : ℕ) where
  pub open_parts : is_open m n ≡ true → Open m n
  open_parts e =
      let a = and_parts (is_place m.depth n) _ e in
      let b = and_parts (not (blocked m n)) _ a.1 in
      record { at = a.0; free = not-true (blocked m n) b.0; allowed = b.1 }

  pub open_from : Open m n → is_open m n ≡ true
  open_from o = and_from _ _ o.at (and_from _ _ (not_from_false (blocked m n) o.free) o.allowed)

  pub open_below : is_open m n ≡ true → n < 2 ^ (m.depth + 1)
  open_below e = place_below m.depth n (open_parts e).at

  pub open_depth : is_open m n ≡ true → depth_of n ≤ m.depth
  open_depth e = depth_le m.depth n (open_parts e).at

-- what answers a search
pub record Answer (m : Meaning) (w d f k : ℕ) : Type 0 where
  pub at : at_depth d k ≡ true
  pub under : lies k w ≡ true
  pub from : f ≤ k
  pub is : is_open m k ≡ true

module _ (m : Meaning) (w d f k : ℕ) where
  pub answer_parts : answers m w d f k ≡ true → Answer m w d f k
  answer_parts e =
      let a = and_parts (at_depth d k) _ e in
      let b = and_parts (lies k w) _ a.1 in
      let c = and_parts (leb f k) _ b.1 in
      record { at = a.0; under = b.0; from = leb-true f k c.0; is = c.1 }

  pub answer_from : Answer m w d f k → answers m w d f k ≡ true
  answer_from t = and_from _ _ t.at (and_from _ _ t.under (and_from _ _ (le-leb f k t.from) t.is))

  pub no_answer : (Answer m w d f k → ⊥) → answers m w d f k ≡ false
  no_answer f' = false_from_ne_true (answers m w d f k) (λ e. f' (answer_parts e))

  pub too_deep : m.depth < d → answers m w d f k ≡ false
  too_deep lt = no_answer (λ a. let l = depth_at d k a.at in let le = open_depth m k a.is in omega arith)

-- removing what is not there
pub removing_none : (set : ℕ → Bool) (n : ℕ) → set n ≡ false → removing set n ≡ set
removing_none set n e = fun_ext (λ k. ⊎_elim (λ q. grind (arith, nat_tests, ap set q)) (λ ne. grind (arith, nat_tests)) (cases_eq k n))

-- the meaning after a take that is granted, and after a give that is refused
module _ (m : Meaning) (n : ℕ) where
  pub took : is_open m n ≡ true → having m (adding m.out n) ≡ after_take m n
  took e = ap (having m) (sym (cond-true (is_open m n) (adding m.out n) m.out e))

  pub gave_none : m.out n ≡ false → m ≡ after_give m n
  gave_none e = ap (having m) (sym (removing_none m.out n e))
