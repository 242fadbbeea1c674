use Rattle.std.proofs.Common.{◌≡◌, length, true, sym, ◌∙◌, arith, rules, ◌≤◌}
use Rattle.std.proofs.lemmas.Bool.{cond-true}
use Rattle.std.proofs.lemmas.Bool.Decides.{nat_tests}
use Rattle.bitmap.specs.Map.{room}
use Rattle.bitmap.proofs.Words.{wiped, tidy_clear, fresh_clear}
use Rattle.bitmap.proofs.Bitmap.new.Goals as goal

pub invariant_of-result-2 : goal.invariant_of-result-2
invariant_of-result-2 c =
    let d = c.args.depth in
    let low : 1 ≤ d = search rules in
    let high : d ≤ 12 = search rules in
    record {
      shallow = omega arith;
      sized = λ _. omega (arith, c.wipe.auto.words);
      tidy = λ _. tidy_clear d c.wipe.new.words (wiped d _ c.args.words.now c.wipe.new.words (omega arith) c.wipe.ensures);
    }

pub returns-clause-meaning : goal.returns-clause-meaning
returns-clause-meaning c =
    let d = c.args.depth in
    let low : 1 ≤ d = search rules in
    let high : d ≤ 12 = search rules in
    let roomy : room d (length c.args.words.now) ≡ true = grind (arith, nat_tests) in
    fresh_clear d c.wipe.new.words (wiped d _ c.args.words.now c.wipe.new.words (omega arith) c.wipe.ensures) (omega arith) ∙ sym (cond-true _ _ _ roomy)
