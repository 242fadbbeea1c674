-- `push_groups` writes the first group, and then one more at each turn, behind a colon.
use Rattle.std.proofs.Common.{◌-◌, [], ◌∷◌, ◌++◌, length, get_or, take, drop, sym, ap, ◌∙◌, arith, length-take}
use Rattle.std.proofs.lemmas.List.{append_assoc, take_all, nil_from_length}
use Rattle.numeral.specs.Groups.{hex}
use Rattle.numeral.proofs.Texts.{nothing, then}
use Rattle.address.specs.Canonical.{behind}
use Rattle.address.proofs.Canon.{colons_head, behind_more}
use Rattle.address.proofs.colons.push_groups.Goals as goal

pub returns-in_default : goal.returns-in_default
returns-in_default c = rw (nil_from_length c.args.groups.now (omega arith)) (nothing 43 c.args.draft.now c.requires)

pub loop-g-init : goal.loop-g-init
loop-g-init c = nothing 43 c.hex.new.self (rw c.hex.ensures (simp length-take (omega arith)))

pub loop-g-preserved : goal.loop-g-preserved
loop-g-preserved c =
    let l = c.loop-g in
    let old = c.hex.new.self in
    let rest = take (length c.args.groups.now - 1) (drop 1 c.args.groups.now) in
    let p = then 43 old _ (58 ∷ []) l.invariant c.push.ensures in
    let q = then 43 old _ (hex (get_or rest l.g-index 0)) p c.hex-in-loop-g.ensures in
    q ∙ ap (λ t. take 43 (old ++ t)) (append_assoc (behind (take l.g-index rest)) (58 ∷ []) (hex (get_or rest l.g-index 0)) ∙ sym (behind_more rest l.g-index c.loop-g-test.true))

pub returns : goal.returns
returns c =
    let l = c.loop-g in
    let gs = c.args.groups.now in
    let rest = take (length gs - 1) (drop 1 gs) in
    let all = ap behind (take_all l.g-index rest c.loop-g-test.false) in
    then 43 c.args.draft.now (hex (get_or gs 0 0)) (behind (take l.g-index rest)) c.hex.ensures l.invariant ∙ ap (λ t. take 43 (c.args.draft.now ++ t)) (ap (λ t. hex (get_or gs 0 0) ++ t) all ∙ sym (colons_head gs c.in-len1-up.len_at_least))
