use Rattle.std.proofs.Common.{arith}
use Rattle.tree.proofs.Hits.{hit_self, hit_last, hit_nowhere}
use Rattle.tree.proofs.BuddyTree.obstacle.Goals as goal

pub returns-then-self-n-ne0 : goal.returns-then-self-n-ne0
returns-then-self-n-ne0 c =
    let s = c.args.self.now in
    hit_self s.depth s.bytes.now c.requires.live (s.tidy c.requires.live) c.args.n c.requires.place c.if-self-n-ne0.true

pub returns-in_err-k : goal.returns-in_err-k
returns-in_err-k c =
    let s = c.args.self.now in
    rw c.from_residual.ensures (hit_nowhere s.depth s.bytes.now c.requires.live (s.tidy c.requires.live) c.args.n c.requires.place c.if-self-n-ne0.false c.in_err-k.ensures)

pub returns : goal.returns
returns c =
    let s = c.args.self.now in
    let k = c.in_ok-k.ensures in
    hit_last s.depth s.bytes.now c.args.n c.in_ok-k.k _ c.requires.live s.shallow c.requires.place k.1 k.2 (omega arith)
