use Rattle.std.proofs.Common.{sym}
use Rattle.space.proofs.Opening.{gave_none}
use Rattle.tree.specs.Tree.{tree_meaning}
use Rattle.tree.specs.Sound.{tree_sound}
use Rattle.tree.proofs.BuddyTreeSpace.give.Goals as goal

pub set_out-requires-clause-apart : goal.set_out-requires-clause-apart
set_out-requires-clause-apart c = λ k o l.
    let s = c.args.self.now in
    (tree_sound s.depth s.bytes.now s.shallow s.tidy).apart k c.args.n o (sym c.if-out.ensures) l

pub returns-else-out-clause-after : goal.returns-else-out-clause-after
returns-else-out-clause-after c =
    gave_none (tree_meaning c.args.self.now.depth c.args.self.now.bytes.now) c.args.n (sym c.if-out.ensures)
