use Rattle.std.proofs.Common.{◌≡◌, ℕ, ◌-◌, ◌<◌, ◌≤◌, true}
use Rattle.space.specs.Meaning.{blocked}
use Rattle.bitmap.specs.Map.{map_meaning}
use Rattle.bitmap.proofs.Bitmap.first_free.Given as goal

abbrev pub invariant-loop-n : goal.invariant-loop-n
invariant-loop-n l = (l.places.start ≤ l.n) × ((i : ℕ) → l.places.start ≤ i → i < l.n → i < l.places.end → blocked (map_meaning l.self.depth l.self.words.now) i ≡ true)

abbrev pub decreases-loop-n : goal.decreases-loop-n
decreases-loop-n l = l.places.end - l.n
