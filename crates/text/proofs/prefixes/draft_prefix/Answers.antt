-- The address, the slash and the length stand one behind the other, and fit the draft.
use Rattle.std.proofs.Common.{[], ◌∷◌, ◌++◌, decimal, arith}
use Rattle.std.proofs.lemmas.Fmt.{length-decimal-le}
use Rattle.std.proofs.lemmas.List.{length-append, take_all}
use Rattle.numeral.proofs.Texts.{then}
use Rattle.text.proofs.prefixes.draft_prefix.Goals as goal

pub returns : goal.returns
returns g c =
    let p = c.args.p.now in
    let n = g.F.Family.form.first p in
    let l = c.length.result in
    let w = g.F.TextFamily.written n in
    let short = g.met.F.TextFamily.short n (g.met.F.Family.valid p).small in
    let few = length-decimal-le 3 l (omega arith) (omega (arith, c.length.type_inv)) (omega (arith, c.length.type_inv)) in
    let whole = take_all 43 (w ++ (47 ∷ decimal l)) (omega (arith, length-append w (47 ∷ decimal l))) in
    let three = then 43 c.draft-draft.result (47 ∷ []) (decimal l) c.push.ensures c.decimal.ensures in
    cc
