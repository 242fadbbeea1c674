use Rattle.std.proofs.Common.{◌≡◌, ℕ, ◌-◌, ◌<◌, ◌≤◌, true}
use Rattle.space.specs.Meaning.{blocked}
use Rattle.tree.specs.Tree.{tree_meaning}
use Rattle.tree.proofs.BuddyTree.first_free.Given as goal

abbrev pub invariant-loop-k : goal.invariant-loop-k
invariant-loop-k l =
    (l.places.start ≤ l.k) × ((j : ℕ) → l.places.start ≤ j → j < l.k → blocked (tree_meaning l.self.depth l.self.bytes.now) j ≡ true)

abbrev pub decreases-loop-k : goal.decreases-loop-k
decreases-loop-k l = l.places.end - l.k
