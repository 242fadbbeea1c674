-- Raised by 128 bits or more, nothing of a number is left.
use Rattle.std.proofs.Common.{arith}
use Rattle.std.proofs.lemmas.Grind.{common_steps}
use Rattle.prefix.proofs.Shifting.{shl_or_none}
use Rattle.prefix.proofs.shift.raised.Goals as goal

pub returns : goal.returns
returns c = grind (arith, common_steps, shl_or_none)
