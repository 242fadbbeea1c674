-- What is printed for the rest completes the output; no more lines are counted than bytes are read.
use Rattle.std.proofs.Common.{ℕ, ◌+◌, ◌≤◌, List, ◌++◌, length, vec_items}
use Rattle.prefixes.specs.Printing.{Lines}
use Rattle.prefixes.proofs.reports.Given as goal

abbrev pub invariant-loop-number : goal.invariant-loop-number
invariant-loop-number l =
    let number = l.number-iterator.a.start in
    let rest = l.number-iterator.b.rest.now in
    (number + length rest ≤ length l.input + 1) × ((others : List ℕ) → Lines number rest others → Lines 1 l.input (vec_items l.out ++ others))
