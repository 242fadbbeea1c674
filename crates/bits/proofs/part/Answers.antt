use Rattle.std.proofs.Common.{◌≡◌, ◌-◌, ◌∙◌, arith}
use Rattle.std.proofs.lemmas.Bool.Decides.{nat_tests}
use Rattle.bits.proofs.Digits.{on_before}
use Rattle.bits.proofs.part.Goals as goal

pub returns : goal.returns
returns c = λ j lt.
    let o = c.saturating_sub-over.result in
    let q : 64 - (64 - o) ≡ o = omega arith in
    (rw q at (on_before (64 - o) j (omega arith))) ∙ grind (arith, nat_tests)
