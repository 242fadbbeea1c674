-- The text of eight groups is that of their number.
use Rattle.std.proofs.Common.{arith, rules}
use Rattle.text.specs.Eights.{groups-whole}
use Rattle.text.proofs.six.V6TextFamily.draft.Goals as goal

pub returns-clause-text : goal.returns-clause-text
returns-clause-text c =
    let e = groups-whole c.args.address (record { count = omega arith; each = λ k. search rules }) in cc
