-- A walk from a place up to the root that sets each byte right.
use Rattle.std.proofs.Common.{◌≡◌, ℕ, ◌+◌, ◌*◌, ◌/◌, ◌^◌, ◌<◌, ◌≤◌, Bool, true, false, cond, not, ◌&&◌, ◌||◌, eqb, ◌≢◌, List, length, set, sym, refl, ap, ◌∙◌, ⊎_elim, arith, get_or-set_other, get_or-set_same, length-set}
use mathlib.Core.Path.{fun_ext}
use Rattle.std.proofs.lemmas.Bool.{cases_eq, or_left, or_right, lt-ltb, ne_eqb, eq-eqb, both_ways}
use Rattle.std.proofs.lemmas.Bool.Decides.{nat_tests}
use Rattle.std.specs.Int.{from_bool}
use Rattle.space.specs.Places.{lies, overlap, is_place}
use Rattle.space.specs.Meaning.{adding, removing}
use Rattle.space.proofs.Lies.{lies_self, lies_half, lies_le, lies_pos}
use Rattle.space.proofs.Depths.{pow_more, place_of, place_pos, place_below}
use Rattle.tree.specs.Tree.{byte, agrees, node, Tidy, tree_out}
use Rattle.tree.specs.Sound.{inner, agrees_low}
use Rattle.tree.proofs.Agreeing.{two_agrees, low_node, above_agrees, above_no_one, out_in}
use Rattle.tree.proofs.Hits.{out_from}

pub byte_same : (b : List ℕ) (i v : ℕ) → i < length b → byte (set b i v) i ≡ v
byte_same b i v lt = rw get_or-set_same

pub byte_other : (b : List ℕ) (i v k : ℕ) → (k ≡ i → ⊥) → byte (set b i v) k ≡ byte b k
byte_other b i v k ne = let h : k ≢ i = ne in rw get_or-set_other

from_bool_bit : (t : Bool) → (from_bool t < 2) × (eqb (from_bool t) 1 ≡ t)
from_bool_bit true = (omega arith, refl)
from_bool_bit false = (omega arith, refl)

-- a write at a place leaves the numbers that are no place
pub byte_beyond : (d : ℕ) (b : List ℕ) (i v k : ℕ) → is_place d i ≡ true → is_place d k ≡ false → byte (set b i v) k ≡ byte b k
byte_beyond d b i v k pl off = byte_other b i v k (λ q. both_ways (is_place d k) off (ap (is_place d) q ∙ pl))

-- a byte that is neither read nor written leaves a node as it was
node_other : (d : ℕ) (b : List ℕ) (i v k : ℕ) → (k ≡ i → ⊥) → (2 * k ≡ i → ⊥) → (2 * k + 1 ≡ i → ⊥) → node d b k ≡ true → node d (set b i v) k ≡ true
node_other d b i v k x y z e =
    rw (byte_other b i v k x, byte_other b i v (2 * k) y, byte_other b i v (2 * k + 1) z) e

-- which bytes are 1 after 1 is written at n, and after 0 is
pub ones_with : (b : List ℕ) (n k : ℕ) → n < length b → eqb (byte (set b n 1) k) 1 ≡ (eqb k n || eqb (byte b k) 1)
ones_with b n k lt =
    ⊎_elim
    (λ e. rw (eq-eqb k n e) (ap (λ x. eqb x 1) (ap (byte (set b n 1)) e ∙ byte_same b n 1 lt)))
    (λ ne. rw (ne_eqb k n ne) (ap (λ x. eqb x 1) (byte_other b n 1 k ne)))
    (cases_eq k n)

pub ones_without : (b : List ℕ) (n k : ℕ) → n < length b → eqb (byte (set b n 0) k) 1 ≡ (not (eqb k n) && eqb (byte b k) 1)
ones_without b n k lt =
    ⊎_elim
    (λ e. rw (eq-eqb k n e) (ap (λ x. eqb x 1) (ap (byte (set b n 0)) e ∙ byte_same b n 0 lt)))
    (λ ne. rw (ne_eqb k n ne) (ap (λ x. eqb x 1) (byte_other b n 0 k ne)))
    (cases_eq k n)

-- the bytes `e` with n set to `out`: `b` is tidy but at `a`, as far up as the walk has come
pub record Climb (d n : ℕ) (out : Bool) (e b : List ℕ) (a : ℕ) : Type 0 where
  pub low : a < 2 ^ d
  pub long : 2 ^ (d + 1) ≤ length b
  pub rest : (k : ℕ) → is_place d k ≡ true → (k ≡ a → ⊥) → node d b k ≡ true
  pub free : (k : ℕ) → lies a k ≡ true → byte b k ≡ 1 → ⊥
  pub ones : (k : ℕ) → eqb (byte b k) 1 ≡ cond (eqb k n) out (eqb (byte e k) 1)
  pub beyond : (k : ℕ) → is_place d k ≡ false → byte b k ≡ byte e k
  pub over : out ≡ true → 0 < a → 0 < byte b (2 * a) + byte b (2 * a + 1)

-- the byte above one that is set
pub parent_set : (b : List ℕ) (i v : ℕ) → 0 < v → i < length b → 0 < byte (set b i v) (2 * (i / 2)) + byte (set b i v) (2 * (i / 2) + 1)
parent_set b i v pos lt =
    let s = byte_same b i v lt in
    ⊎_elim
    (λ e. let t : byte (set b i v) (2 * (i / 2)) ≡ v = ap (byte (set b i v)) (sym e) ∙ s in omega arith)
    (λ ne. let e : i ≡ 2 * (i / 2) + 1 = omega arith in let t : byte (set b i v) (2 * (i / 2) + 1) ≡ v = ap (byte (set b i v)) (sym e) ∙ s in omega arith)
    (cases_eq i (2 * (i / 2)))

-- the walk's start, in tidy bytes: nothing is set below n, and no place above it is out
module _ (d n : ℕ) (out : Bool) (e : List ℕ) (pl : is_place d n ≡ true) (long : 2 ^ (d + 1) ≤ length e) (tidy : Tidy d e) where
  -- n itself: 1 or 0, with nothing below
  here : (v : ℕ) → v < 2 → (n < 2 ^ d → byte e (2 * n) + byte e (2 * n + 1) ≡ 0) → node d (set e n v) n ≡ true
  here v small none =
      let low = place_below d n pl in
      let pos = place_pos d n pl in
      low_node d (set e n v) n (omega (arith, byte_same e n v (omega arith)))
      (λ lt. rw (byte_other e n v (2 * n) (λ q. omega arith), byte_other e n v (2 * n + 1) (λ q. omega arith)) (none lt))

  pub climb_start : (v : ℕ) → v ≡ from_bool out → (n < 2 ^ d → byte e (2 * n) + byte e (2 * n + 1) ≡ 0)
      → ((k : ℕ) → lies n k ≡ true → (k ≡ n → ⊥) → byte e k ≡ 1 → ⊥) → Climb d n out e (set e n v) (n / 2)
  climb_start v is none free =
      let p = pow_more d in
      let low = place_below d n pl in
      let pos = place_pos d n pl in
      record {
        low = omega arith;
        long = omega (arith, length-set e n v);
        rest = λ k pk ne.
            ⊎_elim
            (λ same. rw same (here v (rw is (from_bool_bit out).0) none))
            (λ other. node_other d e n v k other (λ q. omega arith) (λ q. omega arith) (tidy k pk))
            (cases_eq k n);
        free = λ k l one.
            let le = lies_le (n / 2) k l in
            let ne : k ≡ n → ⊥ = λ q. omega arith in
            free k (lies_half n k pos (λ q. omega arith) ∙ l) ne (sym (byte_other e n v k ne) ∙ one);
        ones = λ k.
            ⊎_elim
            (λ q. rw (eq-eqb k n q) (ap (λ x. eqb x 1) (ap (byte (set e n v)) q ∙ byte_same e n v (omega arith) ∙ is) ∙ (from_bool_bit out).1))
            (λ ne. rw (ne_eqb k n ne) (ap (λ x. eqb x 1) (byte_other e n v k ne)))
            (cases_eq k n);
        beyond = λ k off. byte_beyond d e n v k pl off;
        over = λ t h. parent_set e n v (let one : from_bool out ≡ 1 = rw t refl in omega arith) (omega arith);
      }

  -- that is so where no other place out overlaps n
  module _ (live : 0 < d) (apart : (k : ℕ) → tree_out d e k ≡ true → overlap k n ≡ true → k ≡ n) where
    none_above : (k : ℕ) → lies n k ≡ true → (k ≡ n → ⊥) → byte e k ≡ 1 → ⊥
    none_above k l ne one =
        let o = out_from d e k (record { live = live; pos = lies_pos n k l; low = omega (arith, lies_le n k l, place_below d n pl); one = one }) in
        ne (apart k o (or_right (lies k n) (lies n k) l))

    none_below : n < 2 ^ d → byte e (2 * n) + byte e (2 * n + 1) ≡ 0
    none_below lt =
        let pos = place_pos d n pl in
        let low : byte e n < 2 = ⊎_elim
        (λ z. omega arith)
        (λ nz.
        let t = out_in d e tidy n live pos (place_below d n pl) nz in
        let one = rw (apart t.0 (out_from d e t.0 t.1) (or_left (lies t.0 n) (lies n t.0) t.2)) at t.1.one in
        omega arith)
        (cases_eq (byte e n) 0) in
        agrees_low (byte e n) _ (inner d e tidy n pos lt) low

    pub climb_from : (v : ℕ) → v ≡ from_bool out → Climb d n out e (set e n v) (n / 2)
    climb_from v is = climb_start v is none_below none_above

module _ {d n : ℕ} {out : Bool} {e b : List ℕ} where
  pub climb_step : (a v : ℕ) → Climb d n out e b a → 0 < a → (v ≡ 1 → ⊥) → agrees true v (byte b (2 * a) + byte b (2 * a + 1)) ≡ true → Climb d n out e (set b a v) (a / 2)
  climb_step a v w pos no_one ok =
      let p = pow_more d in
      let lw = w.low in
      let lg = w.long in
      record {
        low = omega arith;
        long = omega (arith, length-set b a v);
        rest = λ k pl ne.
            ⊎_elim
            (λ same. rw same (rw (lt-ltb a (2 ^ d) lw, byte_same b a v (omega arith), byte_other b a v (2 * a) (λ q. omega arith), byte_other b a v (2 * a + 1) (λ q. omega arith)) ok))
            (λ other. node_other d b a v k other (λ q. omega arith) (λ q. omega arith) (w.rest k pl other))
            (cases_eq k a);
        free = λ k l one.
            let le = lies_le (a / 2) k l in
            let ne : k ≡ a → ⊥ = λ q. omega arith in
            w.free k (lies_half a k pos (λ q. omega arith) ∙ l) (sym (byte_other b a v k ne) ∙ one);
        ones = λ k.
            ⊎_elim
            (λ same. rw same (ap (λ x. eqb x 1) (byte_same b a v (omega arith)) ∙ ne_eqb v 1 no_one ∙ sym (ne_eqb (byte b a) 1 (w.free a (lies_self a pos))) ∙ w.ones a))
            (λ other. ap (λ x. eqb x 1) (byte_other b a v k other) ∙ w.ones k)
            (cases_eq k a);
        beyond = λ k off. byte_beyond d b a v k (place_of d a pos (omega arith)) off ∙ w.beyond k off;
        over = λ t h. let s = w.over t pos in parent_set b a v (⊎_elim (λ z. absurd (omega (arith, agrees_low v _ ok (omega arith)))) (λ nz. omega arith) (cases_eq v 0)) (omega arith);
      }

  -- that step, of the bytes `c` that it leaves: v is 2 where n is out, else made from the two below
  pub climb_take : (a i v : ℕ) (c : List ℕ) → Climb d n out e b a → 0 < a → c ≡ set b i v → i ≡ a → out ≡ true → v ≡ 2 → Climb d n out e c (a / 2)
  climb_take a i v c w pos new at t is =
      rw (new, at, is) (climb_step a 2 w pos (λ q. omega arith) (two_agrees _ (w.over t pos)))

  pub climb_give : (a i v s u : ℕ) (c : List ℕ) → Climb d n out e b a → 0 < a → c ≡ set b i v → i ≡ a
      → s ≡ byte b (2 * a) + byte b (2 * a + 1) → u ≡ cond (eqb s 0) 0 2 → v ≡ u → Climb d n out e c (a / 2)
  climb_give a i v s u c w pos new at sum is same =
      let h = rw sum at is in rw (new, at, same) (climb_step a u w pos (above_no_one _ u h) (above_agrees _ u h))

  -- the walk's end, at the root
  pub climb_end : (a : ℕ) → Climb d n out e b a → a ≡ 0 → Tidy d b
  climb_end a w z j pl = w.rest j pl (λ q. let pos = place_pos d j pl in omega arith)

pub climb_outs : {d n : ℕ} {out : Bool} {e b : List ℕ} {a : ℕ} → 0 < d → is_place d n ≡ true → Climb d n out e b a
    → tree_out d b ≡ cond out (adding (tree_out d e) n) (removing (tree_out d e) n)
climb_outs {out = true} live pl w = fun_ext (λ k. let o = w.ones k in grind (arith, nat_tests))
climb_outs {out = false} live pl w = fun_ext (λ k. let o = w.ones k in grind (arith, nat_tests))
