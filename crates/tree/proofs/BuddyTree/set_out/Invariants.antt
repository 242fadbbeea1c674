use Rattle.tree.proofs.Climb.{Climb}
use Rattle.tree.proofs.BuddyTree.set_out.Given as goal

abbrev pub invariant-loop-a : goal.invariant-loop-a
invariant-loop-a l = Climb l.fn.self.depth l.n l.out l.fn.self.bytes.now l.b l.a

abbrev pub decreases-loop-a : goal.decreases-loop-a
decreases-loop-a l = l.a
