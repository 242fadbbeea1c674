use Rattle.std.proofs.Common.{◌≡◌, take, vec_items}
use Rattle.spaces.specs.Calls.{Ran, Alike}
use Rattle.spaces.proofs.call.run.Given as goal

abbrev pub invariant-loop-call : goal.invariant-loop-call
invariant-loop-call g l =
    Ran (take l.call-index l.calls) (g.A.Space.meaning l.initial.a) (g.B.Space.meaning l.initial.b) (vec_items l.answers) (g.A.Space.meaning l.a) (g.B.Space.meaning l.b)
    × (g.A.Space.meaning l.initial.a ≡ g.B.Space.meaning l.initial.b → Alike (vec_items l.answers) × (g.A.Space.meaning l.a ≡ g.B.Space.meaning l.b))
