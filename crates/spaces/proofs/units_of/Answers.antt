use Rattle.std.proofs.Common.{arith, pow_mono}
use Rattle.std.proofs.lemmas.Nat.{one_shl}
use Rattle.spaces.proofs.units_of.Goals as goal

pub returns-in-1-to-12 : goal.returns-in-1-to-12
returns-in-1-to-12 c = omega (arith, one_shl c.args.depth 64 (omega arith), pow_mono {i = c.args.depth} {j = 12} (omega arith))
