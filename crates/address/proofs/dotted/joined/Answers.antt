-- `joined` writes one octet and dot after another, and a draft has room for them all.
use Rattle.std.proofs.Common.{[], ◌++◌, get_or, take, decimal, ap, ◌∙◌, arith}
use Rattle.std.proofs.lemmas.List.{append_assoc, take_all}
use Rattle.numeral.proofs.Texts.{then}
use Rattle.address.proofs.Quads.{octets_short}
use Rattle.address.proofs.dotted.joined.Goals as goal

pub returns : goal.returns
returns c =
    let o = c.args.octets in
    let short = octets_short (get_or o 0 0) (get_or o 1 0) (get_or o 2 0) (get_or o 3 0) (omega arith, omega arith, omega arith, omega arith) in
    let first = c.decimal.ensures ∙ ap (λ t. take 43 (t ++ decimal (get_or o 0 0))) c.new-draft.ensures in
    let one = then 43 [] _ _ first c.push.ensures in
    let two = then 43 [] _ _ (then 43 [] _ _ one c.decimal-2.ensures) c.push-2.ensures in
    let three = then 43 [] _ _ (then 43 [] _ _ two c.decimal-3.ensures) c.push-3.ensures in
    let all = then 43 [] _ _ three c.decimal-4.ensures in
    simp append_assoc at all ∙ take_all 43 _ (omega arith)
