use Rattle.std.proofs.Common.{ap, arith, pow_mono}
use Rattle.space.proofs.Depths.{depth_top}
use Rattle.limit.specs.Walk.{sum_under, units_at}
use Rattle.limit.proofs.Walking.{units_walked}
use Rattle.limit.proofs.quota.used.Goals as goal

pub count-requires : goal.count-requires
count-requires g c =
    record { above = omega arith; low = omega arith; height = omega (arith, depth_top 1 (omega arith), c.depth.ensures) }

pub returns : goal.returns
returns g c =
    let m = g.S.Space.meaning c.args.space.now in
    let shallow = (g.met.S.Space.sound c.args.space.now).shallow in
    let e = c.depth.ensures in
    let p = pow_mono {i = c.depth.result} {j = 12} (omega arith) in
    record {
      value = omega (arith, c.count.ensures.value, ap (λ h. sum_under h (units_at m.depth m.out) 1) e, units_walked m.depth m.out);
      bound = omega (arith, c.count.ensures.bound);
    }
