use Rattle.std.proofs.Common.{◌≡◌, ℕ, ◌+◌, ◌*◌, ◌<◌, ◌≤◌, cond, not, eqb, ◌&&◌, ltb, leb, get_or, length, ◌⊎◌}
use Rattle.bits.specs.Bit.{on, bit, within}
use Rattle.bits.proofs.fill_run.Given as goal

abbrev pub invariant-loop-w : goal.invariant-loop-w
invariant-loop-w g l = record {
  bits : (k : ℕ) → bit l.words k ≡ cond (within l.start l.end k && ltb k (64 * l.w)) (not (eqb g.row.SET 0)) (bit l.initial.words k);
  beyond : (k : ℕ) → l.end ≤ 64 * k → get_or l.words k 0 ≡ get_or l.initial.words k 0;
  own : (l.w ≤ length l.initial.words) ⊎ (64 * l.w ≤ l.start);
  mask : (j : ℕ) → j < 64 → on l.from j ≡ leb l.start (64 * l.w + j);
}
