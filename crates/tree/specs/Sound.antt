-- Tidy bytes are a sound space: below a place out no place is out.
use Rattle.std.specs.Prelude.{◌≡◌, ℕ, ◌+◌, ◌*◌, ◌/◌, ◌^◌, ◌<◌, ◌≤◌, true, List, ◌≢◌, nat_lt, refl}
use Rattle.std.proofs.Common.{sym, ⊎_elim, arith}
use Rattle.std.proofs.lemmas.Bool.{cases_eq, and_parts, ltb-true, eqb-true, lt-ltb, or_cases}
use Rattle.std.proofs.lemmas.Bool.Decides.{nat_tests}
use Rattle.space.specs.Places.{lies, is_place}
use Rattle.space.specs.Meaning.{Sound}
use Rattle.space.proofs.Lies.{lies_each}
use Rattle.space.proofs.Depths.{pow_more, place_of, place_pos, place_below}
use Rattle.tree.specs.Tree.{byte, agrees, Tidy, tree_out, tree_meaning}

pub agrees_low : (a s : ℕ) → agrees true a s ≡ true → a < 2 → s ≡ 0
unfolding agrees
agrees_low a s e lt = grind (arith, nat_tests)

module _ (d : ℕ) (b : List ℕ) (tidy : Tidy d b) where
  -- at a place with halves
  pub inner : (n : ℕ) → 0 < n → n < 2 ^ d → agrees true (byte b n) (byte b (2 * n) + byte b (2 * n + 1)) ≡ true
  inner n pos lt =
      let p = pow_more d in
      rw (lt-ltb n (2 ^ d) lt) at (tidy n (place_of d n pos (omega arith)))

  pub child : (k : ℕ) → 1 < k → k < 2 ^ (d + 1) → byte b (k / 2) < 2 → byte b k ≡ 0
  child k pos lt low =
      let p = pow_more d in
      let s = agrees_low (byte b (k / 2)) _ (inner (k / 2) (omega arith) (omega arith)) low in
      ⊎_elim
      (λ l. rw l (omega arith))
      (λ (ne : k ≡ 2 * (k / 2) → ⊥). let r : k ≡ 2 * (k / 2) + 1 = omega arith in rw r (omega arith))
      (cases_eq k (2 * (k / 2)))

  -- below a clear byte and below a place out all bytes are clear
  pub under : (n : ℕ) → 0 < n → byte b n < 2 → (k : ℕ) → lies k n ≡ true → (k ≢ n) → k < 2 ^ (d + 1) → byte b k ≡ 0
  under n pos low k l =
      lies_each (λ x. (x ≢ n) → x < 2 ^ (d + 1) → byte b x ≡ 0) n (λ ne. absurd (ne refl))
      (λ x gt half ih ne lt. child x (omega arith) lt
      (⊎_elim (λ e. rw e low) (λ other. omega (arith, ih other (omega arith))) (cases_eq (x / 2) n)))
      k l

-- what it is to be out
pub record Out (d : ℕ) (b : List ℕ) (n : ℕ) : Type 0 where
  pub live : 0 < d
  pub pos : 0 < n
  pub low : n < 2 ^ (d + 1)
  pub one : byte b n ≡ 1

pub out_parts : (d : ℕ) (b : List ℕ) (n : ℕ) → tree_out d b n ≡ true → Out d b n
out_parts d b n e =
    let x = and_parts (nat_lt 0 d) _ e in
    let y = and_parts (is_place d n) _ x.1 in
    record { live = ltb-true 0 d x.0; pos = place_pos d n y.0; low = place_below d n y.0; one = eqb-true (byte b n) 1 y.1 }

pub tree_sound : (d : ℕ) (b : List ℕ) → d ≤ 12 → (0 < d → Tidy d b) → Sound (tree_meaning d b)
tree_sound d b le tidy = record {
  shallow = le;
  inside = λ n e. let o = out_parts d b n e in place_of d n o.pos o.low;
  apart = λ n k e f l. let o = out_parts d b n e in let p = out_parts d b k f in
      ⊎_elim (λ same. same)
      (λ ne. ⊎_elim
      (λ x. absurd (omega (arith, o.one, under d b (tidy o.live) k p.pos (omega (arith, p.one)) n x ne o.low)))
      (λ x. absurd (omega (arith, p.one, under d b (tidy o.live) n o.pos (omega (arith, o.one)) k x (λ q. ne (sym q)) p.low)))
      (or_cases (lies n k) (lies k n) l))
      (cases_eq n k);
}
