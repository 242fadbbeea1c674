-- A whole text: what its head and its tail, as they were read, say of the address.
use Rattle.std.proofs.Common.{◌≡◌, ℕ, ◌+◌, ◌-◌, ◌<◌, ◌≤◌, List, [], ◌∷◌, ◌++◌, length, take, drop, replicate, sym, refl, ap, ◌∙◌, subst, inl, inr, arith, take-add}
use borrow.Rule.Slice.PartMut.{put_mid}
use Rattle.std.proofs.lemmas.List.{append-nil, append_assoc, drop-drop, drop_all, drop-replicate, take-replicate}
use Rattle.address.specs.Colons.{Joined, Address}
use Rattle.address.specs.Steps.{Took}
use Rattle.address.proofs.Reading.{all_one, head_one}

joined_whole : (most : ℕ) (text gs : List ℕ) → Took most text gs [] → Joined text gs
joined_whole most text gs t = subst (λ x. Joined x gs) (sym (t.read.spelt ∙ append-nil t.read.front)) t.read.joined

pub full : (text gs : List ℕ) → Took 8 text gs [] → length gs ≡ 8 → Address text gs
full text gs t e = inl (record { eight = e; spelt = joined_whole 8 text gs t })

module _ (text gs rest : List ℕ) (head : Took 8 text gs rest) where
  -- the head is neither the whole text nor in front of two colons
  pub head_refused : (length gs ≡ 8 → rest ≡ [] → ⊥) → ((x : List ℕ) → length gs < 8 → rest ≡ 58 ∷ (58 ∷ x) → ⊥) → (hs : List ℕ) → Address text hs → ⊥
  head_refused whole cut hs (inl f) =
      let o = all_one 8 text gs rest hs head f.spelt (omega (arith, f.eight)) in
      whole (ap length o.0 ∙ f.eight) o.1
  head_refused whole cut hs (inr s) =
      let o = head_one text gs rest hs head s in
      cut s.right (omega (arith, ap length o.0, s.room)) o.1

  -- something is left behind the tail, which could have had all the groups that the head leaves to it
  pub tail_left : (most : ℕ) (ts left : List ℕ) → length gs < 8 → 7 ≤ most + length gs → Took most (drop 2 rest) ts left → (left ≡ [] → ⊥) → (hs : List ℕ) → Address text hs → ⊥
  tail_left most ts left few room tail some hs (inl f) =
      let o = all_one 8 text gs rest hs head f.spelt (omega (arith, f.eight)) in
      omega (arith, ap length o.0, f.eight)
  tail_left most ts left few room tail some hs (inr s) =
      let o = head_one text gs rest hs head s in
      let j : Joined (drop 2 rest) s.after = subst (λ r. Joined (drop 2 r) s.after) (sym o.1) s.last in
      some (all_one most (drop 2 rest) ts left s.after tail j (omega (arith, ap length o.0, s.room))).1

  module _ (x : List ℕ) (cut : rest ≡ 58 ∷ (58 ∷ x)) where
    pub tail_refused : (most : ℕ) (ts left : List ℕ) → length gs < 8 → 7 ≤ most + length gs → Took most x ts left → (left ≡ [] → ⊥) → (hs : List ℕ) → Address text hs → ⊥
    tail_refused most ts left few room tail = tail_left most ts left few room (subst (λ t. Took most t ts left) (sym (ap (drop 2) cut)) tail)

    -- head, two colons and tail are the text, and leave out a group or more
    pub shortened : (most : ℕ) (ts left : List ℕ) → most + length gs < 8 → Took most x ts left → left ≡ [] → Address text (gs ++ (replicate (8 - (length gs + length ts)) 0 ++ ts))
    shortened most ts left room tail none =
        inr
        (record {
          left = head.read.front;
          right = x;
          before = gs;
          after = ts;
          spelt = head.read.spelt ∙ ap (λ r. head.read.front ++ r) cut;
          first = head.read.joined;
          last = joined_whole most x ts (subst (Took most x ts) none tail);
          room = omega (arith, tail.few);
          groups = refl;
        })

-- the tail's k groups at the end of an array that has n groups of the head and zeros behind them
pub placed : (into ys : List ℕ) (n k : ℕ) → length into ≡ 8 → n + k ≤ 8 → drop n into ≡ drop n (replicate 8 0) → put_mid (8 - k) (8 - (8 - k)) into ys ≡ take n into ++ (replicate (8 - (n + k)) 0 ++ ys)
placed into ys n k eight room zeros =
    let m : 8 - k ≡ n + (8 - (n + k)) = omega arith in
    let z = take-add n (8 - (n + k)) into in
    let d : take (8 - (n + k)) (drop n into) ≡ replicate (8 - (n + k)) 0 = ap (take (8 - (n + k))) (zeros ∙ drop-replicate n 8 0) ∙ take-replicate (8 - (n + k)) (8 - n) 0 (omega arith) in
    let e = drop-drop (8 - (8 - k)) (8 - k) into ∙ drop_all (8 - k + (8 - (8 - k))) into (omega arith) in
    let a = append-nil ys in
    let b = append_assoc (take n into) (replicate (8 - (n + k)) 0) ys in
    cc
