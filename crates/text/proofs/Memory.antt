-- Lent memory behind a text that was written to its front, and the draft of a prefix's text.
use Rattle.std.proofs.Common.{◌≡◌, ℕ, ◌-◌, ◌<◌, ◌≤◌, List, [], ◌∷◌, ◌++◌, length, take, drop, decimal, sym, ap, ◌∙◌, arith}
use native.Mathlib.Nat.{sub-zero}
use Rattle.std.proofs.lemmas.List.{length-append, take_at, take_all}
use Rattle.numeral.proofs.Numerals.{decimal_short}
use Rattle.numeral.proofs.Texts.{then}

-- what was written stands in the first bytes
pub wrote_front : (text old new : List ℕ) (n : ℕ) → n ≡ length text → new ≡ text ++ drop n old → take (n - 0) new ≡ text
wrote_front text old new n count e = ap (λ k. take k new) (sub-zero n) ∙ ap (λ t. take n t) e ∙ take_at text (drop n old) n (sym count)

-- an address, a slash and a length fit a draft whole
pub drafted_whole : (w a b c : List ℕ) (l : ℕ) → length w ≤ 39 → l < 1000 → a ≡ w → b ≡ take 43 (a ++ (47 ∷ [])) → c ≡ take 43 (b ++ decimal l) → c ≡ w ++ (47 ∷ decimal l)
drafted_whole w a b c l short small ea eb ec =
    let e : c ≡ take 43 (a ++ ((47 ∷ []) ++ decimal l)) = then 43 a (47 ∷ []) (decimal l) eb ec in
    e ∙ ap (λ t. take 43 (t ++ (47 ∷ decimal l))) ea
    ∙ take_all 43 (w ++ (47 ∷ decimal l)) (omega (arith, length-append w (47 ∷ decimal l), decimal_short l small))
