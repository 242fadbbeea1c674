use Rattle.std.proofs.Common.{refl}
use Rattle.tree.proofs.Drawn.{bytes_drawn}
use Rattle.tree.proofs.BuddyTree.bytes.Goals as goal

pub returns : goal.returns
returns c =
    let s = c.args.self.now in
    record { whole = refl; drawn = λ live. bytes_drawn s.depth s.bytes.now live (s.tidy live) (s.first live) (s.sized live) }
