-- A text is read in one way: of groups joined by colons, with what stops them, there is one reading.
use Rattle.std.proofs.Common.{◌≡◌, ℕ, zero, suc, ◌+◌, ◌-◌, ◌≤◌, true, false, ◌&&◌, leb, ◌⊎◌, List, [], ◌∷◌, ◌++◌, length, take, drop, replicate, sym, refl, ap, ◌∙◌, subst, inl, inr, arith}
use Rattle.std.proofs.lemmas.List.{append-nil, append_assoc}
use Rattle.std.proofs.lemmas.Bool.{both_ways}
use Rattle.std.specs.Str.Parse.{digits_value}
use Rattle.numeral.specs.Groups.{Group, hexes, starts}
use Rattle.numeral.proofs.Hexes.{group_take, group_drop, group_starts}
use Rattle.address.specs.Colons.{Behind, Joined, Address, Full, Shortened}
use Rattle.address.specs.Steps.{more, Took}

-- what no digit begins, no digit begins behind groups that stand behind colons
behind_stops : (y gs rest : List ℕ) → Behind y gs → hexes rest ≡ 0 → hexes (y ++ rest) ≡ 0
behind_stops y [] rest b e = rw b e
behind_stops y (g ∷ gs) rest b e = rw b.2

-- a group and what no digit begins
same_group : (x x' r r' : List ℕ) (g g' : ℕ) → Group x g → Group x' g' → hexes r ≡ 0 → hexes r' ≡ 0 → x ++ r ≡ x' ++ r' → (g ≡ g') × (r ≡ r')
same_group x x' r r' g g' p p' h h' e =
    let s : x ≡ x' = sym (group_take x g p r h) ∙ ap (λ l. take (hexes l) l) e ∙ group_take x' g' p' r' h' in
    (p.number ∙ ap (digits_value 16) s ∙ sym p'.number, sym (group_drop x g p r h) ∙ ap (λ l. drop (hexes l) l) e ∙ group_drop x' g' p' r' h')

behind_follows : (y gs r : List ℕ) (g : ℕ) → Behind y (g ∷ gs) → hexes r ≡ 0 → more 1 (y ++ r) ≡ true
behind_follows y gs r g b h =
    let x = b.0 in
    let z = b.1 in
    ap (λ t. more 1 (t ++ r)) b.2 ∙ ap starts (append_assoc x z r) ∙ group_starts x g b.3 (z ++ r) (behind_stops z gs r b.4 h)

-- groups behind colons go on in one way
same_behind : (gs hs y y' r r' : List ℕ) (most : ℕ) → Behind y gs → Behind y' hs → y ++ r ≡ y' ++ r' → hexes r ≡ 0 → hexes r' ≡ 0 → (length gs ≡ most) ⊎ (more 1 r ≡ false) → length hs ≤ most → more 1 r' ≡ false → (gs ≡ hs) × (r ≡ r')
same_behind [] [] y y' r r' most b b' e h h' all few stop = (refl, cc)
same_behind [] (g' ∷ hs) y y' r r' most b b' e h h' all few stop =
    elim all [
      | inl full ↦ absurd (omega arith)
      | inr here ↦ let f = behind_follows y' hs r' g' b' h' in absurd (both_ways (more 1 r) here (cc))
    ]
same_behind (g ∷ gs) [] y y' r r' most b b' e h h' all few stop =
    let f = behind_follows y gs r g b h in
    absurd (both_ways (more 1 r') stop (cc))
same_behind (g ∷ gs) (g' ∷ hs) y y' r r' most b b' e h h' all few stop =
    let x = b.0 in
    let z = b.1 in
    let x' = b'.0 in
    let z' = b'.1 in
    let p = append_assoc x z r in
    let p' = append_assoc x' z' r' in
    let t : 58 ∷ (x ++ z ++ r) ≡ 58 ∷ (x' ++ z' ++ r') = sym (ap (λ l. l ++ r) b.2) ∙ e ∙ ap (λ l. l ++ r') b'.2 in
    let s = same_group x x' (z ++ r) (z' ++ r') g g' b.3 b'.3 (behind_stops z gs r b.4 h) (behind_stops z' hs r' b'.4 h') (cc) in
    let left : (length gs ≡ most - 1) ⊎ (more 1 r ≡ false) = elim all [ inl full ↦ inl (omega arith) | inr here ↦ inr here ] in
    let q = same_behind gs hs z z' r r' (most - 1) b.4 b'.4 s.1 h h' left (omega arith) stop in
    let k = s.0 in
    (cc, q.1)

joined_starts : (front gs r : List ℕ) (g : ℕ) → Joined front (g ∷ gs) → hexes r ≡ 0 → starts (front ++ r) ≡ true
joined_starts front gs r g j h =
    let x = j.0 in
    let y = j.1 in
    ap (λ t. starts (t ++ r)) j.2 ∙ ap starts (append_assoc x y r) ∙ group_starts x g j.3 (y ++ r) (behind_stops y gs r j.4 h)

-- what no digit begins, no group begins
no_start : (r : List ℕ) → hexes r ≡ 0 → starts r ≡ false
no_start r h = ap (λ n. leb 1 n && leb n 4) h

-- what was taken from a text are the groups of any reading that a stop ends
pub took_one : (most : ℕ) (text gs rest front hs r : List ℕ) → Took most text gs rest → text ≡ front ++ r → Joined front hs → length hs ≤ most → hexes r ≡ 0 → more 1 r ≡ false → (gs ≡ hs) × (rest ≡ r)
took_one most text [] rest front [] r t e j few h stop = let s = t.read.spelt in let f = t.read.joined in (refl, cc)
took_one most text [] rest front (g' ∷ hs) r t e j few h stop =
    let s = t.read.spelt in
    let f = t.read.joined in
    let b = joined_starts front hs r g' j h in
    elim t.all [
      | inl full ↦ absurd (omega arith)
      | inr none ↦ absurd (both_ways (starts rest) none (cc))
    ]
took_one most text (g ∷ gs) rest front [] r t e j few h stop =
    let s = t.read.spelt in
    let b = joined_starts t.read.front gs rest g t.read.joined (t.read.ends (omega arith)) in
    absurd (both_ways (starts r) (no_start r h) (cc))
took_one most text (g ∷ gs) rest front (g' ∷ hs) r t e j few h stop =
    let b = t.read.joined in
    let x = b.0 in
    let z = b.1 in
    let x' = j.0 in
    let z' = j.1 in
    let k = t.read.ends (omega arith) in
    let whole : x ++ (z ++ rest) ≡ x' ++ (z' ++ r) = sym (append_assoc x z rest) ∙ sym (ap (λ l. l ++ rest) b.2) ∙ sym t.read.spelt ∙ e ∙ ap (λ l. l ++ r) j.2 ∙ append_assoc x' z' r in
    let s = same_group x x' (z ++ rest) (z' ++ r) g g' b.3 j.3 (behind_stops z gs rest b.4 k) (behind_stops z' hs r j.4 h) whole in
    let all : (length gs ≡ most - 1) ⊎ (more 1 rest ≡ false) = elim t.all [ inl full ↦ inl (omega arith) | inr none ↦ inr none ] in
    let q = same_behind gs hs z z' rest r (most - 1) b.4 j.4 s.1 k h all (omega arith) stop in
    let n = s.0 in
    (cc, q.1)

no_more : (n : ℕ) (r : List ℕ) → hexes r ≡ 0 → more 1 r ≡ false → more n r ≡ false
no_more zero r h stop = no_start r h
no_more (suc n) r h stop = stop

-- a reading that a stop ends is what is taken
took : (most : ℕ) (text front gs r : List ℕ) → text ≡ front ++ r → Joined front gs → length gs ≤ most → hexes r ≡ 0 → more 1 r ≡ false → Took most text gs r
took most text front gs r e j few h stop =
    record { read = record { front = front; spelt = e; joined = j; ends = λ _. h }; few = few; all = inr (no_more (length gs) r h stop) }

-- the end of a text is a stop
pub took_all : (most : ℕ) (text gs : List ℕ) → Joined text gs → length gs ≤ most → Took most text gs []
took_all most text gs j few = took most text text gs [] (sym (append-nil text)) j few refl refl

pub all_one : (most : ℕ) (text gs rest hs : List ℕ) → Took most text gs rest → Joined text hs → length hs ≤ most → (gs ≡ hs) × (rest ≡ [])
all_one most text gs rest hs t j few = took_one most text gs rest text hs [] t (sym (append-nil text)) j few refl refl

-- and so are two colons
took_head : (text gs : List ℕ) (s : Shortened text gs) → Took 8 text s.before (58 ∷ (58 ∷ s.right))
took_head text gs s = took 8 text s.left s.before (58 ∷ (58 ∷ s.right)) s.spelt s.first (omega (arith, s.room)) refl refl

pub head_one : (text gs rest hs : List ℕ) → Took 8 text gs rest → (s : Shortened text hs) → (gs ≡ s.before) × (rest ≡ 58 ∷ (58 ∷ s.right))
head_one text gs rest hs t s = took_one 8 text gs rest s.left s.before (58 ∷ (58 ∷ s.right)) t s.spelt s.first (omega (arith, s.room)) refl refl

apart : (text gs hs : List ℕ) → Full text gs → Shortened text hs → ⊥
apart text gs hs f s =
    let e = (head_one text gs [] hs (took_all 8 text gs f.spelt (omega (arith, f.eight))) s).0 in
    omega (arith, ap length e, f.eight, s.room)

-- an address text has one reading
pub address_one : (text gs hs : List ℕ) → Address text gs → Address text hs → gs ≡ hs
address_one text gs hs (inl f) (inl f') = (all_one 8 text gs [] hs (took_all 8 text gs f.spelt (omega (arith, f.eight))) f'.spelt (omega (arith, f'.eight))).0
address_one text gs hs (inl f) (inr s') = absurd (apart text gs hs f s')
address_one text gs hs (inr s) (inl f') = absurd (apart text hs gs f' s)
address_one text gs hs (inr s) (inr s') =
    let p = head_one text s.before (58 ∷ (58 ∷ s.right)) hs (took_head text gs s) s' in
    let b = p.0 in
    let r : s.right ≡ s'.right = ap (drop 2) p.1 in
    let j : Joined s.right s'.after = subst (λ t. Joined t s'.after) (sym r) s'.last in
    let a = (all_one 8 s.right s.after [] s'.after (took_all 8 s.right s.after s.last (omega (arith, s.room))) j (omega (arith, s'.room))).0 in
    s.groups ∙ ap (λ b. b ++ (replicate (8 - (length b + length s.after)) 0 ++ s.after)) b ∙ ap (λ a. s'.before ++ (replicate (8 - (length s'.before + length a)) 0 ++ a)) a ∙ sym s'.groups
