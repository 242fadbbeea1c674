-- Each of the eight groups in turn is shifted in behind those before it.
use Rattle.std.proofs.Common.{◌≡◌, fold, sym, ap, ◌∙◌, rules}
use Rattle.std.proofs.lemmas.Iterator.{YieldsList-from_slice}
use Rattle.std.proofs.lemmas.Iterator.Consumers.{fold_from_yields_List}
use Rattle.prefix.specs.Eights.{eight, listed}
use Rattle.prefix.proofs.Groups.{shifted, whole_shifted}
use Rattle.prefix.proofs.six.ArrayU168Address.number.Goals as goal

pub returns-clause-value : goal.returns-clause-value
returns-clause-value c =
    let l : c.args.self ≡ eight c.args.self = listed c.args.self (search rules) in
    let each : c.iter.result.rest.now ≡ eight c.args.self = search (rules, l) in
    fold_from_yields_List _ shifted 0 c.fold.result c.fold.ensures.ran (YieldsList-from_slice (eight c.args.self) each) (λ a x b q k. search rules)
    ∙ ap (fold shifted 0) (sym l)
    ∙ whole_shifted c.args.self (search rules)
