-- A prefix that belongs is the block at its place.
use Rattle.std.proofs.Common.{◌≡◌, ◌-◌, true, arith}
use Rattle.prefix.specs.Form.{block}
use Rattle.prefix.specs.Places.{is_place, place}
use Rattle.prefix.proofs.Trees.{own_low, own_high, own_place, own_block}
use Rattle.prefix.proofs.places.at_own_place.Goals as goal

pub returns-clause-inside : goal.returns-clause-inside
returns-clause-inside g c in_tree =
    let w = g.F.Family.WIDTH in
    let root = block g.F.Family.form c.args.root.now in
    let b = block g.F.Family.form c.args.p.now in
    let d = c.args.depth in
    let vr = g.met.F.Family.valid c.args.root.now in
    let vb = g.met.F.Family.valid c.args.p.now in
    let n : c.place.result ≡ place w root d b = c.place.ensures in
    let there : is_place w root d c.place.result ≡ true = rw n (own_place w root b d vr vb in_tree) in
    let low = own_low w root b d vr vb in_tree in
    let high = own_high w root b d vr vb in_tree in
    let own = own_block w root b d vr vb in_tree in
    let down = c.prefix_at.ensures.inside (b.length - root.length) there (omega (arith, n, low)) (omega (arith, n, high)) in
    g.met.F.Family.same c.prefix_at.result c.args.p.now (cc (down, own, n))
