-- An input printed line by line.
use Rattle.std.proofs.Common.{◌≡◌, ◌≢◌, ℕ, ◌+◌, ◌-◌, ◌<◌, ◌≤◌, List, [], ◌∷◌, ◌++◌, Option, Some, None, MatchOption, Bor, eqb, length, get_or, take, drop, min, sym, refl, ap, ◌∙◌, subst, ⊎_elim, append_assoc, arith, unwrap_or}
use Rattle.std.proofs.lemmas.List.{append-nil, length-append, length-drop, drop_all, take_at, take_more, get_or_append_left, nil_from_length}
use Rattle.std.proofs.lemmas.Bool.{cases_lt, eqb-true, eqb-false}
use Rattle.std.specs.List.{IsFirstMatchOrLen}
use Rattle.std.specs.Str.Iter.{LacksByte as Without}
use Rattle.prefixes.specs.Printing.{Line, Lines, none, last, more}
use Rattle.prefixes.proofs.Parts.{last_part, inner_part}

-- nothing is printed for no input
nothing : (number : ℕ) (input out : List ℕ) → Lines number input out → input ≡ [] → out ≡ []
nothing number input out (none n i o e f) z = f
nothing number input out (last n i o some w l) z = absurd (omega (arith, ap length z))
nothing number input out (more n i o line rest first others e w l r f) z = absurd (omega (arith, ap length z, ap length e, length-append line (10 ∷ rest)))

-- one line more in front of the lines that follow
pub line_more : (input : List ℕ) (at end number : ℕ) (text others : List ℕ) → at < length input → at ≤ end → end ≤ length input → Without 10 (take (end - at) (drop at input))
    → (end < length input → get_or input end 0 ≡ 10) → Line number (take (end - at) (drop at input)) text → Lines (number + 1) (drop (end + 1) input) others → Lines number (drop at input) (text ++ others)
line_more input at end number text others some low high w feed line rest =
    ⊎_elim
    (λ h. more number (drop at input) (text ++ others) (take (end - at) (drop at input)) (drop (end + 1) input) text others (inner_part input at end 10 low h (feed h)) w line rest refl)
    (λ h.
    let whole : take (end - at) (drop at input) ≡ drop at input = last_part input at end h in
    let none_left : others ≡ [] = nothing (number + 1) (drop (end + 1) input) others rest (drop_all (end + 1) input (omega arith)) in
    let all : text ++ others ≡ text = ap (λ l. text ++ l) none_left ∙ append-nil text in
    last number (drop at input) (text ++ others) (omega (arith, length-drop at input)) (subst (Without 10) whole w)
    (subst (λ t. Line number (drop at input) t) (sym all) (subst (λ t. Line number t text) whole line)))
    (cases_lt end (length input))

-- the first piece of an input, up to its line feed, and r, what is left of it without one, in front of the lines that follow
pub piece_more : (input behind : List ℕ) (piece : Bor (List ℕ)) (i number : ℕ) (r : Option (Bor (List ℕ))) (text others : List ℕ) → input ≡ piece.now ++ behind → length piece.now ≡ min (i + 1) (length input)
    → IsFirstMatchOrLen (λ b. eqb b 10) input i → 0 < length input → MatchOption r ((front : List ℕ) → piece.now ≢ front ++ (10 ∷ [])) (λ x. piece.now ≡ x.now ++ (10 ∷ []))
    → Line number (unwrap_or r piece).now text → Lines (number + 1) behind others → Lines number input (text ++ others)
piece_more input behind piece i number (Some x) text others e size first some stripped line rest =
    let whole : input ≡ x.now ++ (10 ∷ behind) = e ∙ ap (λ l. l ++ behind) stripped ∙ append_assoc x.now (10 ∷ []) behind in
    let short : length x.now ≤ i = omega (arith, size, ap length stripped, length-append x.now (10 ∷ [])) in
    more number input (text ++ others) x.now behind text others whole
    (λ k h t. eqb-false (get_or input k 0) 10 (first.0 k 0 (omega arith) (omega arith)) (ap (λ l. get_or l k 0) whole ∙ get_or_append_left x.now (10 ∷ behind) 0 k h ∙ t))
    line rest refl
piece_more input behind piece i number None text others e size first some stripped line rest =
    let feed : i < length input → piece.now ≡ take i input ++ (10 ∷ []) =
    λ h. sym (ap (take (i + 1)) e ∙ take_at piece.now behind (i + 1) (omega arith)) ∙ take_more input i 0 h ∙ ap (λ b. take i input ++ (b ∷ [])) (eqb-true (get_or input i 0) 10 (first.1 h 0)) in
    let all : length input ≤ i = ⊎_elim (λ h. absurd (stripped (take i input) (feed h))) (λ h. h) (cases_lt i (length input)) in
    let left : behind ≡ [] = nil_from_length behind (omega (arith, ap length e, length-append piece.now behind)) in
    let whole : input ≡ piece.now = e ∙ ap (λ l. piece.now ++ l) left ∙ append-nil piece.now in
    let out : text ++ others ≡ text = ap (λ l. text ++ l) (nothing (number + 1) behind others rest left) ∙ append-nil text in
    last number input (text ++ others) some (λ k h. eqb-false (get_or input k 0) 10 (first.0 k 0 (omega arith) (omega arith)))
    (subst (λ t. Line number input t) (sym out) (subst (λ t. Line number t text) (sym whole) line))
