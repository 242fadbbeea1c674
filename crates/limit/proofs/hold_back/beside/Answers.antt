use Rattle.std.proofs.Common.{◌+◌, arith}
use Rattle.space.proofs.Depths.{depth_is, depth_le, place_of}
use Rattle.limit.proofs.hold_back.beside.Goals as goal

pub returns-in_err-next : goal.returns-in_err-next
returns-in_err-next c =
    let n = c.args.n in
    let e = c.in_err-next.ensures in
    let f = c.ranges.n.fits in
    rw c.from_residual.ensures
    (λ same.
    let d = depth_is 64 (n + 1) (omega arith) (omega arith) in
    let l = depth_le 63 n (place_of 63 n (omega arith) (omega arith)) in
    omega arith)
