-- A text cut into parts, and a line into its fields.
use Rattle.std.proofs.Common.{◌≡◌, ℕ, ◌+◌, ◌-◌, ◌<◌, ◌≤◌, List, ◌∷◌, ◌++◌, length, get_or, take, drop, Ok, sym, ap, ◌∙◌, arith}
use Rattle.std.proofs.lemmas.List.{length-take, length-drop, get_or-take, get_or-drop, take-append-drop, drop-drop, drop_more, take_all}
use Rattle.prefixes.specs.declared.line.Version.{Version}
use Rattle.prefixes.specs.declared.line.Version.TheVariants.{Four, Six}
use Rattle.std.specs.Str.Iter.{LacksByte as Without}
use Rattle.prefixes.specs.Lines.{Rewrites}

-- the bytes from at up to r, none of which is b
pub part_without : (text : List ℕ) (at r b : ℕ) → ((k : ℕ) → at ≤ k → k < r → get_or text k 0 ≡ b → ⊥) → Without b (take (r - at) (drop at text))
part_without text at r b f k h e =
    let small : k < r - at = omega (arith, length-take (r - at) (drop at text)) in
    f (at + k) (omega arith) (omega arith) (sym (get_or-drop at text k 0) ∙ sym (get_or-take (r - at) (drop at text) k 0 small) ∙ e)

-- a part that ends with the text
pub last_part : (text : List ℕ) (at r : ℕ) → length text ≤ r → take (r - at) (drop at text) ≡ drop at text
last_part text at r h = take_all (r - at) (drop at text) (omega (arith, length-drop at text))

-- a part with b and more behind it
pub inner_part : (text : List ℕ) (at r b : ℕ) → at ≤ r → r < length text → get_or text r 0 ≡ b → drop at text ≡ take (r - at) (drop at text) ++ (b ∷ drop (r + 1) text)
inner_part text at r b low h e =
    let back : at + (r - at) ≡ r = omega arith in
    sym (take-append-drop (r - at) (drop at text))
    ∙ ap (λ l. take (r - at) (drop at text) ++ l) (drop-drop (r - at) at text ∙ ap (λ n. drop n text) back ∙ drop_more text r 0 h ∙ ap (λ x. x ∷ drop (r + 1) text) e)

pub part_length : (text : List ℕ) (at r : ℕ) → r ≤ length text → length (take (r - at) (drop at text)) ≡ r - at
part_length text at r h = omega (arith, length-take (r - at) (drop at text), length-drop at text)

-- a line whose text ends with it, and one with a field too many
pub text_line : (line : List ℕ) (d end : ℕ) → line ≡ d ∷ (32 ∷ drop 2 line) → length line ≤ end → line ≡ d ∷ (32 ∷ take (end - 2) (drop 2 line))
text_line line d end e h = e ∙ ap (λ t. d ∷ (32 ∷ t)) (sym (last_part line 2 end h))

pub surplus_line : (line : List ℕ) (d end : ℕ) → line ≡ d ∷ (32 ∷ drop 2 line) → 2 ≤ end → end < length line → get_or line end 0 ≡ 32 → line ≡ d ∷ (32 ∷ (take (end - 2) (drop 2 line) ++ (32 ∷ drop (end + 1) line)))
surplus_line line d end e low h space = e ∙ ap (λ t. d ∷ (32 ∷ t)) (inner_part line 2 end 32 low h space)

-- what is rewritten fits its memory, in either family
pub rewrites_fit : (v : Version) (text old new : List ℕ) (n : ℕ) → Rewrites v text old new (Ok n) → n ≤ length old
rewrites_fit Four text old new n h = h.2.1
rewrites_fit Six text old new n h = h.2.1
