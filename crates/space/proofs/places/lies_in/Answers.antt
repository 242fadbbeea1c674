use Rattle.std.proofs.Common.{arith}
use Rattle.space.proofs.Halving.{lies_halved, lies_by_depths}
use Rattle.space.proofs.places.lies_in.Goals as goal

pub returns : goal.returns
returns c = record {
  value = grind (arith, lies_halved);
  halved = λ t. grind (arith, lies_halved, lies_by_depths);
  halving = λ k pos q. grind (arith, lies_halved);
}
