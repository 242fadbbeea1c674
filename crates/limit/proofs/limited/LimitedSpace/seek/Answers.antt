use Rattle.std.proofs.Common.{arith}
use Rattle.space.proofs.Opening.{answer_parts}
use Rattle.limit.proofs.Searching.{none_follows, follow_parts}
use Rattle.limit.proofs.limited.LimitedSpace.seek.Goals as goal

pub returns-in_err-allowed : goal.returns-in_err-allowed
returns-in_err-allowed g c =
    let m = g.S.Space.meaning c.args.self.now.below in
    let i = c.loop-found.invariant in
    let t = c.in_ok-found.ensures in
    rw c.from_residual-in_err-allowed.ensures
    (λ k. none_follows m (g.R.Rule.test c.args.self.now.rule m.depth) c.args.w c.args.d c.args.f c.loop-found.from i.0 i.1 c.in_ok-found.found t.0 t.1 k (c.in_err-allowed.ensures k))

pub loop-found-preserved : goal.loop-found-preserved
loop-found-preserved g c =
    let m = g.S.Space.meaning c.args.self.now.below in
    let i = c.loop-found.invariant in
    let t = c.in_ok-found.ensures in
    let a = c.in_ok-allowed.ensures in
    (omega (arith, (answer_parts m c.args.w c.args.d c.loop-found.from c.in_ok-found.found t.0).from, (follow_parts (g.R.Rule.test c.args.self.now.rule m.depth m.out) c.in_ok-found.found c.in_ok-allowed.allowed a.0).0), λ k lt. none_follows m (g.R.Rule.test c.args.self.now.rule m.depth) c.args.w c.args.d c.args.f c.loop-found.from i.0 i.1 c.in_ok-found.found t.0 t.1 k (a.1 k (omega (arith, lt))))
