-- A mask of k ones keeps the last k bits.
use Rattle.std.proofs.Common.{arith}
use Rattle.std.proofs.lemmas.Grind.{common_steps}
use Rattle.std.proofs.lemmas.Nat.{one_shl, and_mask}
use Rattle.prefix.proofs.Shifting.{low_whole}
use Rattle.prefix.proofs.shift.lower.Goals as goal

pub returns-in-Some : goal.returns-in-Some
returns-in-Some c = grind (arith, common_steps, one_shl c.args.k 128, and_mask c.args.n c.args.k)

pub returns-in-None : goal.returns-in-None
returns-in-None c = grind (arith, common_steps, low_whole c.args.n c.args.k)
