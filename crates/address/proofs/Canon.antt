-- The canonical text of an address: it is a text of that address, and it is short.
use Rattle.std.proofs.Common.{◌≡◌, ℕ, ◌+◌, ◌-◌, ◌*◌, ◌<◌, ◌≤◌, eqb, List, [], ◌∷◌, ◌++◌, length, get_or, take, drop, replicate, sym, refl, ap, ◌∙◌, subst, inl, inr, arith}
use Rattle.std.proofs.lemmas.List.{append-nil, append_assoc, length-append, length-take, length-take-le, length-drop, length-replicate, nil_from_length, drop-drop, take_more, take_rest, take-append-drop, get_or_past}
use Rattle.std.specs.List.{All}
use Rattle.std.proofs.lemmas.List.Elements.{All-nil, All-cons, All-head, All-tail, All-append, All-replicate, All-take, All-drop, All-get_or, All-from_get_or}
use Rattle.std.proofs.lemmas.List.Sums.{prefix_len-le-length}
use Rattle.std.proofs.lemmas.Bool.{cases_lt, lt-ltb, le-ltb}
use Rattle.numeral.specs.Groups.{hex}
use Rattle.numeral.proofs.Hexes.{group_small, hex_group}
use Rattle.address.specs.Canonical.{behind, colons, run, zeros, text6}
use Rattle.address.specs.Colons.{Behind, Joined, Address, Full, Shortened}
use Rattle.address.proofs.Runs.{run-zeros, zeros_split}

-- a group has sixteen bits
abbrev Fits : ℕ → Type 0
Fits g = g < 65536

-- each group that a text writes has sixteen bits
fits_behind : (text gs : List ℕ) → Behind text gs → All Fits gs
fits_behind text [] b = All-nil Fits
fits_behind text (g ∷ gs) b = All-cons Fits g gs (group_small b.0 g b.3) (fits_behind b.1 gs b.4)

fits_joined : (text gs : List ℕ) → Joined text gs → All Fits gs
fits_joined text [] j = All-nil Fits
fits_joined text (g ∷ gs) j = All-cons Fits g gs (group_small j.0 g j.3) (fits_behind j.1 gs j.4)

fits_address : (text gs : List ℕ) → Address text gs → All Fits gs
fits_address text gs (inl f) = fits_joined text gs f.spelt
fits_address text gs (inr s) =
    rw s.groups
    (All-append Fits s.before _ (fits_joined s.left s.before s.first) (All-append Fits _ s.after (All-replicate Fits _ 0 (omega arith)) (fits_joined s.right s.after s.last)))

pub address_eight : (text gs : List ℕ) → Address text gs → length gs ≡ 8
address_eight text gs (inl f) = f.eight
address_eight text gs (inr s) =
    ap length s.groups ∙ simp (length-append, length-replicate) (omega (arith, s.room))

-- and so has what is read past the end, which is 0
pub address_below : (text gs : List ℕ) → Address text gs → (k : ℕ) → get_or gs k 0 < 65536
address_below text gs a k =
    elim (cases_lt k (length gs)) [
      | inl l ↦ All-get_or Fits gs k 0 l (fits_address text gs a)
      | inr l ↦ rw (get_or_past gs k 0 l) (omega arith)
    ]

-- what is written can be read
behind_spelt : (gs : List ℕ) → All Fits gs → Behind (behind gs) gs
behind_spelt [] a = refl
behind_spelt (g ∷ gs) a = (hex g, behind gs, refl, hex_group g (All-head Fits g gs a), behind_spelt gs (All-tail Fits g gs a))

colons_spelt : (gs : List ℕ) → All Fits gs → Joined (colons gs) gs
colons_spelt [] a = refl
colons_spelt (g ∷ gs) a = (hex g, behind gs, refl, hex_group g (All-head Fits g gs a), behind_spelt gs (All-tail Fits g gs a))

behind_short : (gs : List ℕ) → All Fits gs → length (behind gs) ≤ 5 * length gs
behind_short [] a = omega arith
behind_short (g ∷ gs) a = omega (arith, length-append (hex g) (behind gs), (hex_group g (All-head Fits g gs a)).few, behind_short gs (All-tail Fits g gs a))

colons_short : (gs : List ℕ) → All Fits gs → length (colons gs) ≤ 5 * length gs - 1
colons_short [] a = omega arith
colons_short (g ∷ gs) a = omega (arith, behind_short (g ∷ gs) a)

-- one more group is written behind those that are

behind_push : (gs : List ℕ) (g : ℕ) → behind (gs ++ (g ∷ [])) ≡ behind gs ++ (58 ∷ hex g)
behind_push [] g = ap (λ l. 58 ∷ l) (append-nil (hex g))
behind_push (f ∷ gs) g = ap (λ l. 58 ∷ l) (ap (λ l. hex f ++ l) (behind_push gs g) ∙ sym (append_assoc (hex f) (behind gs) (58 ∷ hex g)))

colons_push : (gs : List ℕ) (g : ℕ) → 0 < length gs → colons (gs ++ (g ∷ [])) ≡ (colons gs ++ (58 ∷ [])) ++ hex g
colons_push [] g some = absurd (omega arith)
colons_push (f ∷ gs) g some =
    let a = behind_push gs g in
    let b = append_assoc (hex f) (behind gs) (58 ∷ hex g) in
    let d = append_assoc (hex f ++ behind gs) (58 ∷ []) (hex g) in
    cc

module _ (gs : List ℕ) (i : ℕ) (here : i < length gs) where
  pub colons_first : i ≡ 0 → colons (take (i + 1) gs) ≡ colons (take i gs) ++ hex (get_or gs i 0)
  colons_first e =
      let n : take i gs ≡ [] = nil_from_length (take i gs) (length-take-le i gs (omega arith) ∙ e) in
      let t = take_more gs i 0 here in
      let a = append-nil (hex (get_or gs i 0)) in
      ap colons (t ∙ ap (λ l. l ++ (get_or gs i 0 ∷ [])) n) ∙ a ∙ ap (λ l. colons l ++ hex (get_or gs i 0)) (sym n)

  pub colons_later : 0 < i → colons (take (i + 1) gs) ≡ (colons (take i gs) ++ (58 ∷ [])) ++ hex (get_or gs i 0)
  colons_later some = ap colons (take_more gs i 0 here) ∙ colons_push (take i gs) (get_or gs i 0) (omega (arith, length-take-le i gs (omega arith)))

-- the first group, and those behind it
pub colons_head : (gs : List ℕ) → 1 ≤ length gs → colons gs ≡ hex (get_or gs 0 0) ++ behind (take (length gs - 1) (drop 1 gs))
colons_head [] some = absurd (omega arith)
colons_head (g ∷ gs) some = ap (λ l. hex g ++ behind l) (sym (take_rest (g ∷ gs) 1))

pub behind_more : (gs : List ℕ) (i : ℕ) → i < length gs → behind (take (i + 1) gs) ≡ behind (take i gs) ++ (58 ∷ hex (get_or gs i 0))
behind_more gs i here = ap behind (take_more gs i 0 here) ∙ behind_push (take i gs) (get_or gs i 0)

-- the two forms of the text
pub text6_cut : (gs : List ℕ) → run gs < length gs → text6 gs ≡ colons (take (run gs) gs) ++ (58 ∷ (58 ∷ colons (drop (run gs + zeros (drop (run gs) gs)) gs)))
text6_cut gs h = let e = lt-ltb (run gs) (length gs) h in rw e

pub text6_whole : (gs : List ℕ) → length gs ≤ run gs → text6 gs ≡ colons gs
text6_whole gs h = let e = le-ltb (run gs) (length gs) h in rw e

-- the groups in front of the run, and those behind it
abbrev front : List ℕ → List ℕ
front gs = take (run gs) gs

abbrev back : List ℕ → List ℕ
back gs = drop (run gs + zeros (drop (run gs) gs)) gs

parts : (gs : List ℕ) → gs ≡ front gs ++ (replicate (zeros (drop (run gs) gs)) 0 ++ back gs)
parts gs =
    let a = take-append-drop (run gs) gs in
    let z = zeros_split (drop (run gs) gs) in
    let d = drop-drop (zeros (drop (run gs) gs)) (run gs) gs in
    cc

module _ (gs : List ℕ) (eight : length gs ≡ 8) (each : (k : ℕ) → get_or gs k 0 < 65536) where
  -- each group has sixteen bits
  all : All Fits gs
  all = All-from_get_or Fits gs 0 (λ k _. each k)

  lengths : run gs < length gs → (length (front gs) ≡ run gs) × (length (back gs) + run gs + zeros (drop (run gs) gs) ≡ 8)
  lengths h =
      let z = prefix_len-le-length (λ g. eqb g 0) (drop (run gs) gs) in
      (simp length-take (omega arith), simp length-drop (omega (arith, length-drop (run gs) gs)))

  shortened : run gs < length gs → Shortened (colons (front gs) ++ (58 ∷ (58 ∷ colons (back gs)))) gs
  shortened h =
      let n = lengths h in
      let two = run-zeros gs h in
      let some : zeros (drop (run gs) gs) ≡ 8 - (length (front gs) + length (back gs)) = omega arith in
      record {
        left = colons (front gs);
        right = colons (back gs);
        before = front gs;
        after = back gs;
        spelt = refl;
        first = colons_spelt (front gs) (All-take Fits (run gs) gs all);
        last = colons_spelt (back gs) (All-drop Fits _ gs all);
        room = omega arith;
        groups = parts gs ∙ ap (λ n. front gs ++ (replicate n 0 ++ back gs)) some;
      }

  -- the canonical text is a text of the address
  pub text6_address : Address (text6 gs) gs
  text6_address =
      elim (cases_lt (run gs) (length gs)) [
        | inl h ↦ inr (subst (λ t. Shortened t gs) (sym (text6_cut gs h)) (shortened h))
        | inr h ↦ inl (subst (λ t. Full t gs) (sym (text6_whole gs h)) (record { eight = eight; spelt = colons_spelt gs all }))
      ]

  -- it has at most eight groups of four digits, and seven colons
  pub text6_short : length (text6 gs) ≤ 39
  text6_short =
      elim (cases_lt (run gs) (length gs)) [
        | inl h ↦ let n = lengths h in omega (arith, ap length (text6_cut gs h), run-zeros gs h, length-append (colons (front gs)) (58 ∷ (58 ∷ colons (back gs))), colons_short (front gs) (All-take Fits (run gs) gs all), colons_short (back gs) (All-drop Fits _ gs all))
        | inr h ↦ omega (arith, ap length (text6_whole gs h), colons_short gs all)
      ]
