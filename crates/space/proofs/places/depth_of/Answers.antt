use Rattle.std.proofs.Common.{arith}
use Rattle.space.proofs.Depths.{depth_log, depth_top}
use Rattle.space.proofs.places.depth_of.Goals as goal

pub returns-clause-value : goal.returns-clause-value
returns-clause-value c = grind (arith, depth_log, depth_top)
