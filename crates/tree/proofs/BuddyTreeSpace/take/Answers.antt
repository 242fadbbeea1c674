use Rattle.std.proofs.Common.{sym}
use Rattle.tree.proofs.Hits.{open_apart}
use Rattle.tree.proofs.BuddyTreeSpace.take.Goals as goal

pub set_out-requires-clause-apart : goal.set_out-requires-clause-apart
set_out-requires-clause-apart c = λ k o l.
    let s = c.args.self.now in
    open_apart s.depth s.bytes.now c.args.n (sym c.if-open.ensures) k o l
