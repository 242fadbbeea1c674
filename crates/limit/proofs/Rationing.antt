-- A search under a quota: all places of one depth have one size.
use Rattle.std.proofs.Common.{◌≡◌, ℕ, ◌+◌, ◌-◌, ◌^◌, ◌<◌, true, false, leb, sym, ap, ◌∙◌, arith}
use mathlib.Core.Path.{fun_ext}
use Rattle.std.proofs.lemmas.Bool.{both_ways, false_from_ne_true}
use Rattle.space.specs.Places.{size, units}
use Rattle.space.specs.Meaning.{Meaning, answers}
use Rattle.space.proofs.Truth.{same_test}
use Rattle.space.proofs.Depths.{depth_at}
use Rattle.space.proofs.Opening.{answer_parts, too_deep}
use Rattle.limit.specs.Limits.{within_quota}
use Rattle.limit.proofs.Opening.{limited-answers, answers-limited}

module _ (m : Meaning) (q w d f : ℕ) where
  -- the quota's test, of a place and of a depth
  sized : (k : ℕ) → answers m w d f k ≡ true → leb (units m.depth m.out + size m.depth k) q ≡ leb (units m.depth m.out + 2 ^ (m.depth - d)) q
  sized k e = ap (λ x. leb (units m.depth m.out + 2 ^ (m.depth - x)) q) (depth_at d k (answer_parts m w d f k e).at)

  pub quota_room : leb (units m.depth m.out + 2 ^ (m.depth - d)) q ≡ true → answers (within_quota m q) w d f ≡ answers m w d f
  quota_room has = fun_ext (λ k. same_test (answers (within_quota m q) w d f k) (answers m w d f k)
      (λ e. (limited-answers m (λ set n. leb (units m.depth set + size m.depth n) q) w d f f k (answer_parts (within_quota m q) w d f k e).from e).0)
      (λ e. answers-limited m (λ set n. leb (units m.depth set + size m.depth n) q) w d f f k (omega arith) e (sized k e ∙ has)))

  pub quota_full : leb (units m.depth m.out + 2 ^ (m.depth - d)) q ≡ false → (k : ℕ) → answers (within_quota m q) w d f k ≡ false
  quota_full full k = false_from_ne_true (answers (within_quota m q) w d f k) (λ e.
      let a = limited-answers m (λ set n. leb (units m.depth set + size m.depth n) q) w d f f k (answer_parts (within_quota m q) w d f k e).from e in
      both_ways _ full (sym (sized k a.0) ∙ a.1))

  pub quota_deep : m.depth < d → (k : ℕ) → answers (within_quota m q) w d f k ≡ false
  quota_deep lt k = too_deep (within_quota m q) w d f k lt
