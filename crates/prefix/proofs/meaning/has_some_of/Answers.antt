-- The family's law on overlaps, at the answer given.
use Rattle.std.proofs.lemmas.Bool.Decides.{Decides-at}
use Rattle.prefix.proofs.meaning.has_some_of.Goals as goal

pub returns : goal.returns
returns g c = Decides-at c.overlaps.result _ c.overlaps.ensures (g.met.F.Family.shared c.args.p.now c.args.q.now)
