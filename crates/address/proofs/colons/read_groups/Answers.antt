-- `read_groups` reads one more group at each turn.
use Rattle.std.proofs.Common.{◌+◌, ◌<◌, length, take, drop, sym, ap, ◌∙◌, subst, arith}
use Rattle.std.proofs.lemmas.List.{take_more_set, drop-set-lt, length-take-le, drop-drop}
use Rattle.address.specs.Steps.{Next}
use Rattle.address.proofs.Taking.{reads_more}
use Rattle.address.proofs.colons.read_groups.Goals as goal

pub loop-count-preserved : goal.loop-count-preserved
loop-count-preserved c =
    let l = c.loop-count in
    let g = c.in-Some.group in
    let here : l.count < length l.into = omega arith in
    let n = subst (λ m. Next m l.rest.now g.value g.rest.now) (sym (length-take-le l.count l.into (omega arith))) c.in-Some.ensures in
    record {
      read = rw (take_more_set l.into l.count g.value here) (reads_more c.args.text.now (take l.count l.into) l.rest.now g.rest.now g.value l.invariant.read n);
      behind = drop-set-lt (l.count + 1) l.into l.count g.value (omega arith) ∙ sym (drop-drop 1 l.count l.into) ∙ ap (drop 1) l.invariant.behind ∙ drop-drop 1 l.count c.args.into.now;
    }
