-- The loop of `sum` keeps what the digits write that are left behind those read.
use Rattle.std.proofs.Common.{◌≡◌, ◌≤◌, drop}
use Rattle.numeral.specs.Numbers.{value_on}
use Rattle.numeral.proofs.number.sum.Given as goal

abbrev pub invariant-loop-d : goal.invariant-loop-d
invariant-loop-d l = (l.n ≤ l.limit) × (value_on l.n (drop l.d-index l.ds) ≡ value_on 0 l.ds)
