-- The slash that is found is the last.
use Rattle.std.proofs.Common.{arith}
use Rattle.std.proofs.lemmas.Grind.{common_steps}
use Rattle.text.proofs.slash.last_slash.Goals as goal

pub returns : goal.returns
returns c = grind (arith, common_steps)
