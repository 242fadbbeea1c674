-- What a limit does to a search: it goes on behind the first find where the limit's test refuses that.
use Rattle.std.proofs.Common.{◌≡◌, ℕ, ◌<◌, ◌≤◌, Bool, true, false, leb, sym, ◌∙◌, ⊎_elim, arith}
use Rattle.std.proofs.lemmas.Bool.{and_parts, and_from, cases_lt, both_ways, leb-true, le-leb, eqb-true, eq-eqb}
use Rattle.space.specs.Places.{depth_of}
use Rattle.space.specs.Meaning.{Meaning, answers}
use Rattle.space.proofs.Depths.{depth_at}
use Rattle.space.proofs.Opening.{answer_parts, answer_from, no_answer}
use Rattle.limit.specs.Limits.{limited, may_follow}
use Rattle.limit.proofs.Opening.{limited-answers}

pub follow_parts : (test : ℕ → Bool) (n k : ℕ) → may_follow test n k ≡ true → (n ≤ k) × (depth_of k ≡ depth_of n) × (test k ≡ true)
follow_parts test n k e =
    let a = and_parts (leb n k) _ e in
    let b = and_parts _ (test k) a.1 in
    (leb-true n k a.0, eqb-true (depth_of k) (depth_of n) b.0, b.1)

pub follow_from : (test : ℕ → Bool) (n k : ℕ) → n ≤ k → depth_of k ≡ depth_of n → test k ≡ true → may_follow test n k ≡ true
follow_from test n k le e t = and_from _ _ (le-leb n k le) (and_from _ _ (eq-eqb (depth_of k) (depth_of n) e) t)

-- the search so far: from `from` on in the space below, with nothing found before
module _ (m : Meaning) (test : (ℕ → Bool) → ℕ → Bool) (w d f from : ℕ) (le : f ≤ from) (before : (k : ℕ) → k < from → answers (limited m test) w d f k ≡ false) where
  pub none_below : (k : ℕ) → answers m w d from k ≡ false → answers (limited m test) w d f k ≡ false
  none_below k e =
      ⊎_elim
      (λ a. before k a)
      (λ b. no_answer (limited m test) w d f k (λ a. both_ways _ e (limited-answers m test w d f from k b (answer_from (limited m test) w d f k a)).0))
      (cases_lt k from)

  module _ (n : ℕ) (at : answers m w d from n ≡ true) where
    -- behind the first find nothing answers that the test refuses
    pub none_follows : ((k : ℕ) → k < n → answers m w d from k ≡ false) → (k : ℕ) → may_follow (test m.out) n k ≡ false → answers (limited m test) w d f k ≡ false
    none_follows first k e =
        ⊎_elim
        (λ lt. none_below k (first k lt))
        (λ ge. no_answer (limited m test) w d f k (λ a.
        let b = answer_parts m w d from n at in
        let low = b.from in
        let t = limited-answers m test w d f from k (omega arith) (answer_from (limited m test) w d f k a) in
        both_ways _ e (follow_from (test m.out) n k ge (depth_at d k a.at ∙ sym (depth_at d n b.at)) t.1)))
        (cases_lt k n)
