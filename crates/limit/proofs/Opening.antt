-- What a limit does to opening and to a search.
use Rattle.std.proofs.Common.{◌≡◌, ℕ, ◌≤◌, Bool, true, arith}
use Rattle.std.proofs.lemmas.Bool.{and_parts, and_from}
use Rattle.space.specs.Meaning.{Meaning, is_open, answers}
use Rattle.space.proofs.Opening.{open_parts, open_from, answer_parts, answer_from}
use Rattle.limit.specs.Limits.{limited}

module _ (m : Meaning) (test : (ℕ → Bool) → ℕ → Bool) where
  -- open under a limit: open below, and the limit's test says yes
  pub limited_open : (n : ℕ) → is_open (limited m test) n ≡ true → (is_open m n ≡ true) × (test m.out n ≡ true)
  limited_open n e =
      let o = open_parts (limited m test) n e in
      let t = and_parts (m.rule m.out n) _ o.allowed in
      (open_from m n (record { at = o.at; free = o.free; allowed = t.0 }), t.1)

  pub open_limited : (n : ℕ) → is_open m n ≡ true → test m.out n ≡ true → is_open (limited m test) n ≡ true
  open_limited n e t =
      let o = open_parts m n e in
      open_from (limited m test) n (record { at = o.at; free = o.free; allowed = and_from _ _ o.allowed t })

  -- so for the answers to a search
  pub limited-answers : (w d f from k : ℕ) → from ≤ k → answers (limited m test) w d f k ≡ true → (answers m w d from k ≡ true) × (test m.out k ≡ true)
  limited-answers w d f from k le e =
      let a = answer_parts (limited m test) w d f k e in
      let o = limited_open k a.is in
      (answer_from m w d from k (record { at = a.at; under = a.under; from = le; is = o.0 }), o.1)

  pub answers-limited : (w d f from k : ℕ) → f ≤ from → answers m w d from k ≡ true → test m.out k ≡ true → answers (limited m test) w d f k ≡ true
  answers-limited w d f from k le e t =
      let a = answer_parts m w d from k e in
      let low = a.from in
      answer_from (limited m test) w d f k (record { at = a.at; under = a.under; from = omega arith; is = open_limited k a.is t })
