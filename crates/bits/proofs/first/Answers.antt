use Rattle.std.proofs.Common.{bit_and, ◌≡◌, ℕ, ◌*◌, ◌%◌, ◌<◌, cond, not, eqb, get_or, ◌∙◌, ⊎_elim, arith}
use Rattle.std.proofs.lemmas.Bool.{cases_lt}
use Rattle.std.proofs.lemmas.Bool.Decides.{nat_tests}
use Rattle.std.proofs.lemmas.Nat.Bits.{bit_at-zero, bit_at_ones}
use Rattle.std.specs.Int.{w64, trailing_zeros}
use Rattle.bits.specs.Bit.{on}
use Rattle.bits.proofs.Digits.{on-not, on_from}
use Rattle.bits.proofs.Runs.{Met, missed, met}
use Rattle.bits.proofs.first.Given.{Over}
use Rattle.bits.proofs.first.Goals as goal
use Rattle.bits.proofs.first.Goals.{Then-hits-ne0, then-this-ne0, else-this-ne0}

pub loop-w-init : goal.loop-w-init
loop-w-init g c = record {
  before = λ k le more. absurd (omega arith);
  mask = λ j lt. on_from (c.args.run.start % 64) j (omega arith) lt ∙ grind (arith, nat_tests);
}

-- the first bit of the word, from the run's start on, that is looked for
hit : (g : Over) (c : Then-hits-ne0 g) → Met c.args.words.now c.args.run.start c.loop-w.w (trailing_zeros w64 (bit_and c.if-this-ne0.word c.loop-w.from)) (not (eqb g.row.SET 0))
hit g c =
    let y = get_or c.args.words.now c.loop-w.w 0 in
    let is : (j : ℕ) → j < 64 → on c.if-this-ne0.word j ≡ cond (not (eqb g.row.SET 0)) (on y j) (not (on y j)) = λ j lt. elim c.if-this-ne0.branch [
      | then-this-ne0 b ↦ grind (arith, nat_tests)
      | else-this-ne0 b ↦ grind (arith, nat_tests, on-not 64 y j (omega (arith, c.type_inv.words c.loop-w.w)) lt)
    ] in
    met c.args.words.now c.args.run.start c.loop-w.w c.if-this-ne0.word c.loop-w.from (not (eqb g.row.SET 0)) is c.loop-w.invariant.mask (omega arith) c.if-hits-ne0.true

pub returns-then-hits-ne0 : goal.returns-then-hits-ne0
returns-then-hits-ne0 g c =
    let m = hit g (goal.at.returns-then-hits-ne0 g c).Then-hits-ne0 in
    (m.from, omega arith, m.is, λ k le lt. ⊎_elim (λ b. c.loop-w.invariant.before k le b) (λ b. m.before k le lt b) (cases_lt k (64 * c.loop-w.w)))

pub returns-then-i-end : goal.returns-then-i-end
returns-then-i-end g c =
    let m = hit g (goal.at.returns-then-i-end g c).Then-hits-ne0 in
    λ k le lt. ⊎_elim (λ b. c.loop-w.invariant.before k le b) (λ b. m.before k le (omega arith) b) (cases_lt k (64 * c.loop-w.w))

pub loop-w-preserved : goal.loop-w-preserved
loop-w-preserved g c =
    let y = get_or c.args.words.now c.loop-w.w 0 in
    let is : (j : ℕ) → j < 64 → on c.if-this-ne0.word j ≡ cond (not (eqb g.row.SET 0)) (on y j) (not (on y j)) = λ j lt. elim c.if-this-ne0.branch [
      | then-this-ne0 b ↦ grind (arith, nat_tests)
      | else-this-ne0 b ↦ grind (arith, nat_tests, on-not 64 y j (omega (arith, c.type_inv.words c.loop-w.w)) lt)
    ] in
    record {
      before = λ k le more.
          ⊎_elim
          (λ b. c.loop-w.invariant.before k le b)
          (λ b. missed c.args.words.now c.args.run.start c.loop-w.w c.if-this-ne0.word c.loop-w.from (not (eqb g.row.SET 0)) is c.loop-w.invariant.mask k (omega arith) le (grind (arith, bit_at-zero (k % 64))))
          (cases_lt k (64 * c.loop-w.w));
      mask = λ j lt. grind (arith, nat_tests, bit_at_ones 64 j);
    }
