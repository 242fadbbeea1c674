-- When a place overlaps one that is out, and when one out lies in it, by the bytes.
use Rattle.std.proofs.Common.{◌≡◌, ℕ, ◌+◌, ◌-◌, ◌*◌, ◌/◌, ◌%◌, ◌^◌, ◌<◌, ◌≤◌, Bool, true, false, not, ◌&&◌, eqb, ltb, List, sym, refl, ap, ◌∙◌, ⊎_elim, arith, pow_mono}
use Rattle.std.proofs.lemmas.Nat.{shr_le}
use Rattle.std.proofs.lemmas.Bool.{cases_eq, and_parts, and_from, or_cases, or_left, or_right, both_ways, lt-ltb, ne_eqb, eq-eqb, ltb-true, false_from_ne_true}
use Rattle.space.specs.Bounded.{some_below}
use Rattle.space.specs.Places.{lies, overlap, is_place, depth_of, size}
use Rattle.space.specs.Meaning.{blocked, is_open, is_busy}
use Rattle.space.proofs.Below.{some_here, some_none, none_below}
use Rattle.space.proofs.Opening.{open_parts}
use Rattle.space.proofs.Lies.{lies_le, lies_pos}
use Rattle.space.proofs.Halving.{lies_by_depths, run_over, run_lies}
use Rattle.space.proofs.Ranges.{range_within}
use Rattle.space.proofs.Depths.{place_of, place_pos, place_below, depth_le, depth_halved, halved_pos}
use Rattle.tree.specs.Tree.{byte, Tidy, tree_out, tree_meaning, Blocked}
use Rattle.tree.specs.Sound.{Out, out_parts}
use Rattle.tree.proofs.Agreeing.{zero_under, out_in}

pub out_from : (d : ℕ) (b : List ℕ) (n : ℕ) → Out d b n → tree_out d b n ≡ true
out_from d b n o = and_from _ _ (lt-ltb 0 d o.live) (and_from _ _ (place_of d n o.pos o.low) (eq-eqb (byte b n) 1 o.one))

-- whether a test holds of some place out
module _ (d : ℕ) (b : List ℕ) (p : ℕ → Bool) where
  pub some_out : (k : ℕ) → Out d b k → p k ≡ true → some_below (2 ^ (d + 1)) (λ j. tree_out d b j && p j) ≡ true
  some_out k o e = some_here (2 ^ (d + 1)) (λ j. tree_out d b j && p j) k o.low (and_from (tree_out d b k) (p k) (out_from d b k o) e)

  pub none_out : ((k : ℕ) → Out d b k → p k ≡ true → ⊥) → some_below (2 ^ (d + 1)) (λ j. tree_out d b j && p j) ≡ false
  none_out never =
      none_below (2 ^ (d + 1)) (λ j. tree_out d b j && p j)
      (λ k lt. false_from_ne_true (tree_out d b k && p k) (λ e. let t = and_parts (tree_out d b k) _ e in never k (out_parts d b k t.0) t.1))

module _ (d : ℕ) (b : List ℕ) (live : 0 < d) where
  pub hit_at : (n k : ℕ) → 0 < k → k < 2 ^ (d + 1) → byte b k ≡ 1 → overlap k n ≡ true → blocked (tree_meaning d b) n ≡ true
  hit_at n k pos low one e = some_out d b (λ j. overlap j n) k (record { live = live; pos = pos; low = low; one = one }) e

  -- all places that n halved k times has of n's depth, from n to the last
  pub hit_row : (n k : ℕ) → 0 < n / 2 ^ k → n < 2 ^ (d + 1) → k ≤ d → byte b (n / 2 ^ k) ≡ 1 → Blocked (tree_meaning d b) n ((n / 2 ^ k + 1) * 2 ^ k - 1)
  hit_row n k pos low deep one =
      let a = n / 2 ^ k in
      let top = depth_of n + 1 in
      let up = shr_le n k in
      let pl = place_of d n (omega arith) low in
      let e : size (depth_of n) a ≡ 2 ^ k = ap (λ x. 2 ^ x) (let z : depth_of n - depth_of a ≡ k = omega (arith, depth_halved k n pos) in z) in
      let row = rw e at (range_within a (depth_of n) pos (omega (arith, depth_halved k n pos))) in
      let within : 2 ^ top ≤ 2 ^ (d + 1) = (let l : top ≤ d + 1 = omega (arith, depth_le d n pl) in pow_mono l) in
      let over = run_over k n a pos refl in
      record {
        from = omega arith;
        low = omega (arith, row.1);
        all = λ j lo hi. hit_at j a pos (omega arith) one (or_right (lies a j) (lies j a) (run_lies k n a pos refl j lo (omega arith)));
      }

-- the same in a tree, whose numbers a word holds: the last one as a shift says it
pub hit_last : (d : ℕ) (b : List ℕ) (n k last : ℕ) → 0 < d → d ≤ 12 → is_place d n ≡ true → k ≤ depth_of n → byte b (n / 2 ^ k) ≡ 1
    → last ≡ (n / 2 ^ k + 1) * 2 ^ k % 2 ^ 64 - 1 → Blocked (tree_meaning d b) n last
hit_last d b n k last live shallow pl le one is =
    let low = place_below d n pl in
    let deep = depth_le d n pl in
    let hit = hit_row d b live n k (halved_pos n k (place_pos d n pl) le) low (omega arith) one in
    let small : 2 ^ (d + 1) ≤ 2 ^ 13 = (let l : d + 1 ≤ 13 = omega arith in pow_mono l) in
    let e : last ≡ (n / 2 ^ k + 1) * 2 ^ k - 1 = omega (arith, hit.low) in
    rw e hit

module _ (d : ℕ) (b : List ℕ) (live : 0 < d) (tidy : Tidy d b) where
  pub hit_none : (n : ℕ) → 0 < n → byte b n ≡ 0 → ((k : ℕ) → lies n k ≡ true → byte b k ≡ 1 → ⊥) → blocked (tree_meaning d b) n ≡ false
  hit_none n pos z free = none_out d b (λ j. overlap j n) (λ j o both.
      ⊎_elim (λ l. zero_under d b tidy n pos z j o l) (λ l. free j l o.one) (or_cases (lies j n) (lies n j) both))

  pub hit_set : (n : ℕ) → 0 < n → n < 2 ^ (d + 1) → (byte b n ≡ 0 → ⊥) → blocked (tree_meaning d b) n ≡ true
  hit_set n pos low nz =
      let t = out_in d b tidy n live pos low nz in
      some_out d b (λ j. overlap j n) t.0 t.1 (or_left (lies t.0 n) (lies n t.0) t.2)

  -- of the walk up from n: it ends at n, and it ends at the root
  pub hit_self : (n : ℕ) → is_place d n ≡ true → (byte b n ≡ 0 → ⊥) → Blocked (tree_meaning d b) n n
  hit_self n pl nz =
      let low = place_below d n pl in
      record {
        from = omega arith;
        low = low;
        all = λ j lo hi. let e : j ≡ n = omega arith in ap (blocked (tree_meaning d b)) e ∙ hit_set n (place_pos d n pl) low nz;
      }

  pub hit_nowhere : (n : ℕ) → is_place d n ≡ true → byte b n ≡ 0 → ((k : ℕ) → 0 < k → k ≤ depth_of n → byte b (n / 2 ^ k) ≡ 1 → ⊥)
      → blocked (tree_meaning d b) n ≡ false
  hit_nowhere n pl z none = hit_none n (place_pos d n pl) z (λ j l one.
      let t = lies_by_depths n j l in
      let k = depth_of n - depth_of j in
      let up = ap (byte b) t.2 ∙ one in
      ⊎_elim
      (λ q. let e : n / 2 ^ k ≡ n = ap (λ x. n / 2 ^ x) q ∙ (let w : n / 2 ^ 0 ≡ n = omega arith in w) in omega (arith, ap (byte b) e))
      (λ nz. none k (omega arith) (omega arith) up)
      (cases_eq k 0))

  -- the other way: what is not blocked is clear, with nothing out above it
  pub clear_here : (n : ℕ) → 0 < n → n < 2 ^ (d + 1) → blocked (tree_meaning d b) n ≡ false → byte b n ≡ 0
  clear_here n pos low e =
      ⊎_elim (λ z. z)
      (λ nz. absurd (both_ways (blocked (tree_meaning d b) n) e (hit_set n pos low nz)))
      (cases_eq (byte b n) 0)

  pub clear_above : (n : ℕ) → n < 2 ^ (d + 1) → blocked (tree_meaning d b) n ≡ false → (k : ℕ) → lies n k ≡ true → byte b k ≡ 1 → ⊥
  clear_above n low e k l one =
      let le = lies_le n k l in
      both_ways (blocked (tree_meaning d b) n) e (hit_at d b live n k (lies_pos n k l) (omega arith) one (or_right (lies k n) (lies n k) l))

  -- a place out lies in w where w's byte is set
  pub busy_set : (w : ℕ) → 0 < w → w < 2 ^ (d + 1) → not (eqb (byte b w) 0) ≡ is_busy (tree_meaning d b) w
  busy_set w pos low =
      ⊎_elim
      (λ z. rw (eq-eqb (byte b w) 0 z) (sym (none_out d b (λ j. lies j w) (zero_under d b tidy w pos z))))
      (λ nz. let t = out_in d b tidy w live pos low nz in rw (ne_eqb (byte b w) 0 nz) (sym (some_out d b (λ j. lies j w) t.0 t.1 t.2)))
      (cases_eq (byte b w) 0)

-- no place out overlaps what is open
pub open_apart : (d : ℕ) (b : List ℕ) (n : ℕ) → is_open (tree_meaning d b) n ≡ true → (k : ℕ) → tree_out d b k ≡ true → overlap k n ≡ true → k ≡ n
open_apart d b n e k out over =
    let none = some_none (2 ^ (d + 1)) (λ j. tree_out d b j && overlap j n) (open_parts (tree_meaning d b) n e).free k (out_parts d b k out).low in
    absurd (both_ways (tree_out d b k && overlap k n) none (and_from (tree_out d b k) (overlap k n) out over))

-- nothing is busy outside the tree
pub busy_none : (d : ℕ) (b : List ℕ) (w : ℕ) → (ltb 0 d && is_place d w) ≡ false → false ≡ is_busy (tree_meaning d b) w
busy_none d b w outside = sym (none_out d b (λ j. lies j w) (λ k o l.
    let place = place_of d w (lies_pos k w l) (omega (arith, lies_le k w l, o.low)) in
    both_ways (ltb 0 d && is_place d w) outside (and_from _ _ (lt-ltb 0 d o.live) place)))

pub within_parts : (d n : ℕ) → (ltb 0 d && is_place d n) ≡ true → (0 < d) × (0 < n) × (n < 2 ^ (d + 1))
within_parts d n e =
    let t = and_parts (ltb 0 d) _ e in
    (ltb-true 0 d t.0, place_pos d n t.1, place_below d n t.1)
