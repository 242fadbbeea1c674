-- How a reader goes along a text: one more group behind those that were read.
use Rattle.std.proofs.Common.{◌≡◌, ℕ, zero, suc, ◌+◌, ◌-◌, ◌<◌, ◌≤◌, false, eqb, List, [], ◌∷◌, ◌++◌, length, get_or, take, drop, Some, None, Option, sym, refl, ap, ◌∙◌, inl, inr, add-zero, arith, MatchOption}
use Rattle.std.specs.Char.{is_ascii_hexdigit}
use Rattle.std.proofs.lemmas.List.{append-nil, append_assoc, take-append-drop, take_rest, drop-drop, drop_more, get_or-drop, get_or_past, length-take, length-drop}
use Rattle.std.proofs.lemmas.List.Sums.{prefix_len-le-length}
use Rattle.std.proofs.lemmas.Bool.{cases_lt, and_left, and_right}
use Rattle.numeral.specs.Groups.{Group, hexes, starts}
use Rattle.numeral.proofs.Runs.{leading_rest}
use Rattle.address.specs.Colons.{Behind, Joined}
use Rattle.address.specs.Steps.{between, more, Next, Reads}

behind_push : (y gs x : List ℕ) (g : ℕ) → Behind y gs → Group x g → Behind (y ++ (58 ∷ x)) (gs ++ (g ∷ []))
behind_push y [] x g b h = (x, [], ap (λ l. l ++ (58 ∷ x)) b ∙ ap (λ l. 58 ∷ l) (sym (append-nil x)), h, refl)
behind_push y (f ∷ gs) x g b h =
    (b.0, b.1 ++ (58 ∷ x), ap (λ l. l ++ (58 ∷ x)) b.2 ∙ ap (λ l. 58 ∷ l) (append_assoc b.0 b.1 (58 ∷ x)), b.3, behind_push b.1 gs x g b.4 h)

joined_push : (front gs x : List ℕ) (g : ℕ) → Joined front gs → Group x g → Joined (front ++ (between (length gs) ++ x)) (gs ++ (g ∷ []))
joined_push front [] x g j h = (x, [], ap (λ l. l ++ x) j ∙ sym (append-nil x), h, refl)
joined_push front (f ∷ gs) x g j h =
    (j.0, j.1 ++ (58 ∷ x), ap (λ l. l ++ (58 ∷ x)) j.2 ∙ append_assoc j.0 j.1 (58 ∷ x), j.3, behind_push j.1 gs x g j.4 h)

-- one more group is read
pub reads_more : (text gs rest rest' : List ℕ) (g : ℕ) → Reads text gs rest → Next (length gs) rest g rest' → Reads text (gs ++ (g ∷ [])) rest'
reads_more text gs rest rest' g r n =
    let b = between (length gs) in
    let x = n.digits in
    let s = r.spelt in
    let t = n.spelt in
    let p = append_assoc r.front (b ++ x) rest' in
    let q = append_assoc b x rest' in
    record { front = r.front ++ (b ++ x); spelt = cc; joined = joined_push r.front gs x g r.joined n.group; ends = λ _. n.ends }

-- the group that begins a text
pub next_here : {text rest : List ℕ} {g : ℕ} → Group (take (hexes text) text) g → rest ≡ drop (hexes text) text → Next 0 text g rest
next_here {text} h e =
    let s = take-append-drop (hexes text) text in
    record { digits = take (hexes text) text; spelt = cc; group = h; ends = ap hexes e ∙ leading_rest is_ascii_hexdigit text }

-- a text that one colon begins, or two, is that and the rest
pub one_colon : (text : List ℕ) → 1 ≤ length text → get_or text 0 0 ≡ 58 → text ≡ 58 ∷ take (length text - 1) (drop 1 text)
one_colon [] some e = absurd (omega arith)
one_colon (a ∷ x) some e = let r = take_rest (a ∷ x) 1 in cc

pub two_colons : (text : List ℕ) → 2 ≤ length text → get_or text 0 0 ≡ 58 → get_or text 1 0 ≡ 58 → text ≡ 58 ∷ (58 ∷ take (length text - 2) (drop 2 text))
two_colons [] some e f = absurd (omega arith)
two_colons (a ∷ []) some e f = absurd (omega arith)
two_colons (a ∷ (b ∷ x)) some e f = let r = take_rest (a ∷ (b ∷ x)) 2 in cc

-- behind a colon
module _ {text x : List ℕ} (e : text ≡ 58 ∷ x) where
  pub next_behind : {rest : List ℕ} {g : ℕ} (n : ℕ) → (n ≡ 0 → ⊥) → Next 0 x g rest → Next n text g rest
  next_behind zero some h = absurd (some refl)
  next_behind (suc n) some h = let s = h.spelt in record { digits = h.digits; spelt = cc; group = h.group; ends = h.ends }

  pub none_behind : (n : ℕ) → (n ≡ 0 → ⊥) → starts x ≡ false → more n text ≡ false
  none_behind zero some none = absurd (some refl)
  none_behind (suc n) some none = ap (more (suc n)) e ∙ none

-- the same along an index: the group that a reader found at `from`
pub next_first : (text : List ℕ) (from end g : ℕ) → end ≡ from + hexes (drop from text) → Group (take (hexes (drop from text)) (drop from text)) g → Next 0 (drop from text) g (drop end text) × (end ≤ length text)
next_first text from end g e h =
    let n = hexes (drop from text) in
    let some = h.digits.0 in (
      next_here h (ap (λ k. drop k text) e ∙ sym (drop-drop n from text)),
      omega (arith, prefix_len-le-length is_ascii_hexdigit (drop from text), length-drop from text, length-take n (drop from text)),
    )

module _ (text : List ℕ) (at : ℕ) where
  first : get_or (drop at text) 0 0 ≡ get_or text at 0
  first = get_or-drop at text 0 0 ∙ ap (λ k. get_or text k 0) (add-zero at)

  pub colon_within : get_or text at 0 ≡ 58 → at < length text
  colon_within e = elim (cases_lt at (length text)) [ inl h ↦ h | inr h ↦ omega (arith, get_or_past text at 0 h) ]

  -- a text behind a colon
  colon : get_or text at 0 ≡ 58 → drop at text ≡ 58 ∷ drop (at + 1) text
  colon e = drop_more text at 0 (colon_within e) ∙ ap (λ b. b ∷ drop (at + 1) text) e

  pub next_later : (n g : ℕ) (rest : List ℕ) → 0 < n → get_or text at 0 ≡ 58 → Next 0 (drop (at + 1) text) g rest → Next n (drop at text) g rest
  next_later n g rest some e h = next_behind (colon e) n (λ z. omega arith) h

  pub no_group : (n : ℕ) → 0 < n → starts (drop (at + 1) text) ≡ false → more n (drop at text) ≡ false
  no_group zero some e = absurd (omega arith)
  no_group (suc n) some e = and_right (eqb (get_or (drop at text) 0 0) 58) (starts (drop 1 (drop at text))) (ap starts (drop-drop 1 at text) ∙ e)

  pub no_colon : (n : ℕ) → 0 < n → eqb (get_or text at 0) 58 ≡ false → more n (drop at text) ≡ false
  no_colon zero some e = absurd (omega arith)
  no_colon (suc n) some e = and_left (eqb (get_or (drop at text) 0 0) 58) (starts (drop 1 (drop at text))) (ap (λ c. eqb c 58) first ∙ e)

-- what an option holds, said more weakly
pub cases_weaker : {A : Type 0} (o : Option A) {P P' : Type 0} {Q Q' : A → Type 0} → MatchOption o P Q → (P → P') → ((x : A) → Q x → Q' x) → MatchOption o P' Q'
cases_weaker (Some x) c p q = q x c
cases_weaker None c p q = p c
