use Rattle.std.proofs.Common.{◌≡◌, ℕ, ◌+◌, ◌*◌, ◌<◌, ◌≤◌, not, eqb, leb}
use Rattle.bits.specs.Bit.{on, bit}
use Rattle.bits.proofs.first.Given as goal

abbrev pub invariant-loop-w : goal.invariant-loop-w
invariant-loop-w g l = record {
  before : (k : ℕ) → l.start ≤ k → k < 64 * l.w → bit l.words k ≡ not (not (eqb g.row.SET 0));
  mask : (j : ℕ) → j < 64 → on l.from j ≡ leb l.start (64 * l.w + j);
}
