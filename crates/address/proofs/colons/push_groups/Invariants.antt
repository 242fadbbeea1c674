-- `push_groups` has written the groups before `g`, each behind a colon.
use Rattle.std.proofs.Common.{◌≡◌, ◌++◌, take}
use Rattle.address.specs.Canonical.{behind}
use Rattle.address.proofs.colons.push_groups.Given as goal

abbrev pub invariant-loop-g : goal.invariant-loop-g
invariant-loop-g l = l.draft ≡ take 43 (l.initial.draft ++ behind (take l.g-index l.rest))
