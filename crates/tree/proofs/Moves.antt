-- What the bytes mean after a place is marked and after one is cleared.
use Rattle.std.proofs.Common.{◌≡◌, ℕ, ◌+◌, ◌^◌, ◌<◌, ◌≤◌, Bool, true, false, not, ◌&&◌, ◌||◌, eqb, ltb, List, refl, ap, ◌∙◌, ⊎_elim}
use mathlib.Core.Path.{fun_ext}
use Rattle.std.proofs.lemmas.Bool.{cases_eq, lt-ltb, le-ltb, ne_eqb, eq-eqb, ltb-true, and_right}
use Rattle.space.specs.Places.{is_place}
use Rattle.space.specs.Meaning.{is_open, adding, removing, having, after_take, after_give}
use Rattle.space.proofs.Opening.{open_parts, took}
use Rattle.tree.specs.Tree.{byte, tree_out, tree_meaning}

-- a number past the tree is no place
pub past_place : (d k : ℕ) → 2 ^ (d + 1) ≤ k → is_place d k ≡ false
past_place d k le = and_right (ltb 0 k) (ltb k (2 ^ (d + 1))) (le-ltb k (2 ^ (d + 1)) le)

-- what is open has a tree
pub open_live : (d : ℕ) (b : List ℕ) (n : ℕ) → is_open (tree_meaning d b) n ≡ true → 0 < d
open_live d b n e = ltb-true 0 d (open_parts (tree_meaning d b) n e).allowed

module _ (d : ℕ) (b c : List ℕ) (n : ℕ) where
  out_with : 0 < d → is_place d n ≡ true → ((k : ℕ) → eqb (byte c k) 1 ≡ (eqb k n || eqb (byte b k) 1)) → tree_out d c ≡ adding (tree_out d b) n
  out_with live pl ones = fun_ext λ k.
      rw (lt-ltb 0 d live, ones k)
      (⊎_elim
      (λ e. rw (eq-eqb k n e) (ap (λ x. is_place d x && true) e ∙ rw pl refl))
      (λ ne. rw (ne_eqb k n ne) refl)
      (cases_eq k n))

  out_without : ((k : ℕ) → eqb (byte c k) 1 ≡ (not (eqb k n) && eqb (byte b k) 1)) → tree_out d c ≡ removing (tree_out d b) n
  out_without ones = fun_ext λ k. rw (ones k) (tests (ltb 0 d) (is_place d k) (not (eqb k n)) (eqb (byte b k) 1))
    where
      tests : (x y z w : Bool) → (x && (y && (z && w))) ≡ (z && (x && (y && w)))
      tests true true z w = refl
      tests true false true w = refl
      tests true false false w = refl
      tests false y true w = refl
      tests false y false w = refl

  pub tree_taken : is_open (tree_meaning d b) n ≡ true → ((k : ℕ) → eqb (byte c k) 1 ≡ (eqb k n || eqb (byte b k) 1)) → tree_meaning d c ≡ after_take (tree_meaning d b) n
  tree_taken e ones =
      let p = open_parts (tree_meaning d b) n e in
      ap (having (tree_meaning d b)) (out_with (open_live d b n e) p.at ones) ∙ took (tree_meaning d b) n e

  pub tree_given : ((k : ℕ) → eqb (byte c k) 1 ≡ (not (eqb k n) && eqb (byte b k) 1)) → tree_meaning d c ≡ after_give (tree_meaning d b) n
  tree_given ones = ap (having (tree_meaning d b)) (out_without ones)
