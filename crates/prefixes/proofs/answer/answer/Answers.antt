-- The line's fields, and what the second of them gets.
use Rattle.std.proofs.Common.{◌≡◌, ℕ, ◌+◌, ◌<◌, List, ◌∷◌, ◌++◌, Result, Ok, Err, length, get_or, take, drop, refl, sym, ap, ◌∙◌, arith, length-take}
use Rattle.std.proofs.lemmas.List.{drop_more, take-append-drop, take_all}
use Rattle.std.proofs.lemmas.Result.{err_from_is_err_and}
use Rattle.fault.specs.Causes.{moved}
use Rattle.fault.specs.declared.Fault.{Fault}
use Rattle.prefixes.specs.Lines.{at_surplus, at_text, digit, malformed, one_text, surplus}
use Rattle.prefixes.proofs.answer.answer.Goals as goal

-- a line with a field too many
surplus_line : (line rest : List ℕ) (d end : ℕ) → line ≡ d ∷ (32 ∷ rest) → end < length rest → get_or rest end 0 ≡ 32 → line ≡ d ∷ (32 ∷ (take end rest ++ (32 ∷ drop (end + 1) rest)))
surplus_line line rest d end e h space =
    e ∙ ap (λ t. d ∷ (32 ∷ t)) (sym (take-append-drop end rest) ∙ ap (λ t. take end rest ++ t) (drop_more rest end 0 h ∙ ap (λ b. b ∷ drop (end + 1) rest) space))

err_of_surplus : (column : ℕ) (f : Fault) (r : Result ℕ Fault) → Err f ≡ at_text r → Err f ≡ at_surplus column r
err_of_surplus column f (Ok n) e = absurd (cc)
err_of_surplus column f (Err g) e = e

fault_of_surplus : (column n : ℕ) (r : Result ℕ Fault) → Ok n ≡ at_text r → Err (malformed column) ≡ at_surplus column r
fault_of_surplus column n (Ok k) e = refl
fault_of_surplus column n (Err g) e = absurd (cc)

pub returns-in_err-rewrite_in-clause-cases : goal.returns-in_err-rewrite_in-clause-cases
returns-in_err-rewrite_in-clause-cases c =
    let v = c.in_ok-version.version in
    let rest = c.in_ok-version.rest.now in
    let end = c.part_end-end.result in
    let k = c.part_end-end.ensures in
    let r = c.in_err-rewrite_in.ensures in
    let p = err_from_is_err_and c.from_residual-in_err-rewrite_in.result c.from_residual-in_err-rewrite_in.ensures.1 in
    surplus v (take end rest) (drop (end + 1) rest) _ _ r.0
    (surplus_line _ rest (digit v) end c.in_ok-version.ensures c.if-end-rest.true (k.behind c.if-end-rest.true))
    k.part refl refl r.1 (p.1 ∙ ap Err p.2 ∙ err_of_surplus _ _ r.0 r.2)

pub returns-then-end-rest-clause-cases : goal.returns-then-end-rest-clause-cases
returns-then-end-rest-clause-cases c =
    let v = c.in_ok-version.version in
    let rest = c.in_ok-version.rest.now in
    let end = c.part_end-end.result in
    let k = c.part_end-end.ensures in
    let r = c.in_ok-rewrite_in.ensures in
    surplus v (take end rest) (drop (end + 1) rest) _ _ r.0
    (surplus_line _ rest (digit v) end c.in_ok-version.ensures c.if-end-rest.true (k.behind c.if-end-rest.true))
    k.part refl refl r.1
    (ap Err (c.at.ensures ∙ ap (moved _) c.alone.ensures ∙ ap malformed (omega (arith, length-take end rest))) ∙ fault_of_surplus _ _ r.0 r.2)

pub returns-clause-cases : goal.returns-clause-cases
returns-clause-cases c =
    let v = c.in_ok-version.version in
    let r = c.rewrite_in-2.ensures in
    let text = take c.part_end-end.result c.in_ok-version.rest.now in
    let whole : text ≡ c.in_ok-version.rest.now = take_all _ _ c.if-end-rest.false in
    one_text v text r.0 (c.in_ok-version.ensures ∙ ap (λ t. digit v ∷ (32 ∷ t)) (sym whole)) c.part_end-end.ensures.part r.1 r.2
