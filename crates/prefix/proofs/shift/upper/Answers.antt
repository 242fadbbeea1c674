-- What is left of a number of 128 bits without its last 128 bits or more: nothing.
use Rattle.std.proofs.Common.{rules}
use Rattle.prefix.proofs.Shifting.{shr_or_none}
use Rattle.prefix.proofs.shift.upper.Goals as goal

pub returns : goal.returns
returns c = search (rules, shr_or_none)
