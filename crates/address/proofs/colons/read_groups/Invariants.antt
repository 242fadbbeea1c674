-- `read_groups` has read `count` groups up to `rest`, and left the others as they were.
use Rattle.std.proofs.Common.{◌≡◌, take, drop}
use Rattle.address.specs.Steps.{Reads}
use Rattle.address.proofs.colons.read_groups.Given as goal

abbrev pub invariant-loop-count : goal.invariant-loop-count
invariant-loop-count l = record {
  read : Reads l.text (take l.count l.into) l.rest;
  behind : drop l.count l.into ≡ drop l.count l.initial.into;
}
