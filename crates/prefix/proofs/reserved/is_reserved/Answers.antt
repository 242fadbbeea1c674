-- The five rows are looked at one by one, and there are no more.
use Rattle.std.proofs.Common.{◌≡◌, take, ap, ◌∙◌, rules, arith}
use Rattle.std.specs.List.{list_any}
use Rattle.std.proofs.lemmas.List.{take_all}
use Rattle.std.proofs.lemmas.Iterator.{YieldsList-from_slice}
use Rattle.std.proofs.lemmas.Iterator.Search.{any_from_yields_List}
use Rattle.prefix.specs.Form.{block}
use Rattle.prefix.specs.Table.{row_touches}
use Rattle.prefix.proofs.reserved.is_reserved.Goals as goal

pub returns : goal.returns
returns g c =
    let rows = g.F.Family.rows in
    let test = row_touches g.F.Family.WIDTH g.F.Family.form.number (block g.F.Family.form c.args.p.now) in
    let all : take 5 rows ≡ rows = take_all 5 rows (omega (arith, g.met.F.Family.five)) in
    let each : c.iter.result.rest.now ≡ take 5 rows = search (rules, all) in
    any_from_yields_List test _ _ c.any.result c.any.ensures.ran (YieldsList-from_slice (take 5 rows) each) (λ x b q k. search rules)
    ∙ ap (list_any test) all
