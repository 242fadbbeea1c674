use Rattle.std.proofs.Common.{arith}
use Rattle.bitmap.proofs.Scans.{open_from}
use Rattle.bitmap.proofs.BitmapSpace.open.Goals as goal

pub returns : goal.returns
returns c =
    let s = c.args.self.now in
    let p = c.in-Some.ensures in
    open_from s.depth s.words.now c.args.n _ _ c.first.result _ p.0 s.tidy c.first.ensures c.is_none.ensures (omega (arith, p.1.from)) (omega (arith, p.1.to))
