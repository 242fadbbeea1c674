-- `write` writes the canonical text, with the run or without, and a draft has room for it.
use Rattle.std.proofs.Common.{◌≡◌, ℕ, ◌+◌, ◌-◌, ◌<◌, List, [], ◌∷◌, ◌++◌, length, get_or, take, drop, sym, ap, ◌∙◌, arith, rules, length-take}
use Rattle.std.proofs.lemmas.List.{append_assoc, take_all, take_rest}
use Rattle.numeral.proofs.Texts.{then}
use Rattle.address.specs.Canonical.{colons, run, zeros, text6}
use Rattle.address.proofs.Canon.{text6_cut, text6_whole, text6_short}
use Rattle.address.proofs.colons.write.Goals as goal

kept : (gs : List ℕ) → length gs ≡ 8 → ((k : ℕ) → get_or gs k 0 < 65536) → take 43 (text6 gs) ≡ text6 gs
kept gs eight each = take_all 43 (text6 gs) (omega (arith, text6_short gs eight each))

-- what was written of the groups before an index, and of those from one on
up_to : {d : List ℕ} (b gs : List ℕ) (to start : ℕ) → d ≡ take 43 (b ++ colons (take to gs)) → to ≡ start → d ≡ take 43 (b ++ colons (take start gs))
up_to b gs to start p e = p ∙ ap (λ k. take 43 (b ++ colons (take k gs))) e

on_from : {d : List ℕ} (b gs : List ℕ) (end : ℕ) → length gs ≡ 8 → d ≡ take 43 (b ++ colons (take (8 - end) (drop end gs))) → d ≡ take 43 (b ++ colons (drop end gs))
on_from b gs end eight p = p ∙ ap (λ k. take 43 (b ++ colons (take (k - end) (drop end gs)))) (sym eight) ∙ ap (λ l. take 43 (b ++ colons l)) (take_rest gs end)

pub returns-in-None : goal.returns-in-None
returns-in-None c =
    let gs = c.args.groups in
    let eight : length gs ≡ 8 = omega arith in
    let e = text6_whole gs (omega (arith, c.in-None.ensures)) in
    c.push_groups.ensures ∙ ap (λ t. take 43 (t ++ colons gs)) c.new-draft.ensures ∙ ap (take 43) (sym e) ∙ kept gs eight (λ k. search rules)

pub push_groups-requires-in-Some-2 : goal.push_groups-requires-in-Some-2
push_groups-requires-in-Some-2 c = rw c.push-in-Some.ensures (simp length-take (omega arith))

pub returns-in-Some : goal.returns-in-Some
returns-in-Some c =
    let gs = c.args.groups in
    let start = c.in-Some.gap.start in
    let end = c.in-Some.gap.end in
    let r = c.in-Some.ensures in
    let eight : length gs ≡ 8 = omega arith in
    let past : end ≡ run gs + zeros (drop (run gs) gs) = r.2 ∙ ap (λ s. s + zeros (drop s gs)) r.0 in
    let front = colons (take start gs) in
    let back = colons (drop end gs) in
    let first = up_to _ gs _ start c.push_groups-in-Some.ensures (omega arith) ∙ ap (λ t. take 43 (t ++ front)) c.new-draft.ensures in
    let last = on_from _ gs end eight c.push_groups-in-Some-2.ensures in
    let one = then 43 [] front (58 ∷ []) first c.push.ensures in
    let two = then 43 [] (front ++ (58 ∷ [])) (58 ∷ []) one c.push-in-Some.ensures in
    let all = then 43 [] ((front ++ (58 ∷ [])) ++ (58 ∷ [])) back two last in
    let p = append_assoc (front ++ (58 ∷ [])) (58 ∷ []) back in
    let q = append_assoc front (58 ∷ []) (58 ∷ back) in
    let e = text6_cut gs (omega arith) in
    let whole : ((front ++ (58 ∷ [])) ++ (58 ∷ [])) ++ back ≡ text6 gs = cc in
    all ∙ ap (take 43) whole ∙ kept gs eight (λ k. search rules)
