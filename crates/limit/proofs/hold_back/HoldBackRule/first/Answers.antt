use Rattle.std.proofs.Common.{ap, arith}
use Rattle.space.specs.Places.{depth_of}
use Rattle.limit.proofs.Holding.{beside_none, beside_some}
use Rattle.limit.proofs.hold_back.HoldBackRule.first.Goals as goal

pub returns-in_err-beside : goal.returns-in_err-beside
returns-in_err-beside g c =
    rw c.from_residual.ensures
    (beside_none c.args.n c.args.self.now.held c.saturating_sub-halvings.result (omega (arith, ap depth_of c.from.ensures)) c.if-allows.ensures c.in_err-beside.ensures)

pub returns : goal.returns
returns g c =
    beside_some c.args.n c.args.self.now.held c.saturating_sub-halvings.result (omega (arith, ap depth_of c.from.ensures)) c.if-allows.ensures _ (omega arith) (grind arith)
    (omega (arith, c.depth_of.ensures.value, c.depth_of.ensures.bound))
