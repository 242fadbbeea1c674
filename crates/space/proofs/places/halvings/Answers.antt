use Rattle.std.proofs.Common.{arith}
use Rattle.std.proofs.lemmas.Bool.Decides.{nat_tests}
use Rattle.space.proofs.Halving.{lies_by_depths}
use Rattle.space.proofs.places.halvings.Goals as goal

pub returns-in_err-k : goal.returns-in_err-k
returns-in_err-k c = let l = lies_by_depths c.args.n c.args.m in grind (arith, nat_tests)

pub returns : goal.returns
returns c = let l = lies_by_depths c.args.n c.args.m in grind (arith, nat_tests)
