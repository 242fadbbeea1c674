use Rattle.std.proofs.Common.{◌≡◌, ℕ, ◌+◌, ◌-◌, ◌^◌, ◌<◌, ◌≤◌, false}
use Rattle.space.specs.Meaning.{answers}
use Rattle.limit.specs.Limits.{limited}
use Rattle.limit.proofs.limited.LimitedSpace.seek.Given as goal

abbrev pub invariant-loop-found : goal.invariant-loop-found
invariant-loop-found g l =
    let m = g.S.Space.meaning l.self.below in
    (l.f ≤ l.from) × ((k : ℕ) → k < l.from → answers (limited m (g.R.Rule.test l.self.rule m.depth)) l.w l.d l.f k ≡ false)

abbrev pub decreases-loop-found : goal.decreases-loop-found
decreases-loop-found g l = 2 ^ ((g.S.Space.meaning l.self.below).depth + 1) - l.from
