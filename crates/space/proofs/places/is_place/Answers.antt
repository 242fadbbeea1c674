use Rattle.std.proofs.Common.{arith}
use Rattle.space.proofs.Depths.{place_by_depth}
use Rattle.space.proofs.places.is_place.Goals as goal

pub returns-then-n-gt0 : goal.returns-then-n-gt0
returns-then-n-gt0 c = grind (arith, place_by_depth)
