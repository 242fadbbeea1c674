use Rattle.std.proofs.Common.{bit_and, bit_or, ◌≡◌, ℕ, ◌+◌, ◌-◌, ◌*◌, ◌%◌, ◌^◌, ◌<◌, ◌≢◌, length, inl, inr, ⊎_elim, cond, not, ◌&&◌, eqb, get_or, ap₂, ◌∙◌, arith, get_or-set_other}
use Rattle.std.proofs.lemmas.Bool.{cases_lt}
use Rattle.std.proofs.lemmas.Bool.Decides.{nat_tests}
use Rattle.std.proofs.lemmas.Nat.{and_le_r}
use Rattle.std.proofs.lemmas.Nat.Bits.{bit_at_ones}
use Rattle.bits.specs.Bit.{on, bit, within}
use Rattle.bits.proofs.Digits.{on_and, on_or, on-not, on_from}
use Rattle.bits.proofs.Runs.{written, filled}
use Rattle.bits.proofs.fill_run.Goals as goal
use Rattle.bits.proofs.fill_run.Goals.{then-this-ne0, else-this-ne0}

pub loop-w-init : goal.loop-w-init
loop-w-init g c = record {
  bits = λ k. grind (arith, nat_tests);
  beyond = λ k le. grind arith;
  own = inr (omega arith);
  mask = λ j lt. on_from (c.args.run.start % 64) j (omega arith) lt ∙ grind (arith, nat_tests);
}

pub loop-w-preserved : goal.loop-w-preserved
loop-w-preserved g c =
    let ws = c.loop-w.words in
    let w = c.loop-w.w in
    let v = c.if-this-ne0.words in
    let p = bit_and c.loop-w.from c.part.result in
    let fit : p < 2 ^ 64 = omega (arith, and_le_r c.loop-w.from c.part.result) in
    let y = get_or ws w 0 in
    let is : (j : ℕ) → j < 64 → on v j ≡ cond (on p j) (not (eqb g.row.SET 0)) (on y j) = λ j lt. elim c.if-this-ne0.branch [
      | then-this-ne0 b ↦ let q : v ≡ bit_or y p = omega arith in grind (arith, nat_tests, on_or y p j)
      | else-this-ne0 b ↦ let q : v ≡ bit_and y (2 ^ 64 - 1 - p) = omega arith in grind (arith, nat_tests, on_and y (2 ^ 64 - 1 - p) j, on-not 64 p j fit lt)
    ] in
    let here : (j : ℕ) → j < 64 → on p j ≡ within c.args.run.start c.args.run.end (64 * w + j) = λ j lt. on_and _ _ j ∙ ap₂ (λ u v. u && v) (c.loop-w.invariant.mask j lt) (c.part.ensures j lt) in
    record {
      bits = λ k. let x = written ws c.args.run.start c.args.run.end w v p (not (eqb g.row.SET 0)) (omega arith) is here k in let y = c.loop-w.invariant.bits k in grind (arith, nat_tests);
      beyond = λ k le. let ne : k ≢ w = omega arith in rw get_or-set_other (c.loop-w.invariant.beyond k le);
      own = inl (omega arith);
      mask = λ j lt. grind (arith, nat_tests, bit_at_ones 64 j);
    }

pub returns-clause-bits : goal.returns-clause-bits
returns-clause-bits g c = λ k.
    let n = length c.args.words.now in
    let w = c.loop-w.w in
    c.loop-w.invariant.bits k ∙ filled c.args.run.start c.args.run.end n w k (not (eqb g.row.SET 0)) (bit c.args.words.now k)
    (⊎_elim (λ lt. inr (omega arith)) (λ ge. inl (omega arith)) (cases_lt n c.div_ceil.result))
    c.loop-w.invariant.own
