-- What a scan of the words says of a place.
use Rattle.std.proofs.Common.{◌≡◌, ℕ, ◌+◌, ◌-◌, ◌*◌, ◌^◌, ◌<◌, ◌≤◌, true, false, not, ◌&&◌, eqb, List, Option, None, Some, MatchOption, is_some, Bool, refl, sym, ap, ◌∙◌, ⊎_elim, arith}
use Rattle.std.proofs.lemmas.Bool.{cases_Bool, cases_eq, eq-eqb, ne_eqb, not_from_false, not_from_true, and_parts, and_from, both_ways, lt-ltb, false_from_ne_true}
use Rattle.std.proofs.lemmas.Bool.Decides.{nat_tests}
use Rattle.space.specs.Places.{is_place, size, lies}
use Rattle.space.specs.Meaning.{blocked, is_open, is_busy}
use Rattle.space.proofs.Truth.{same_test}
use Rattle.space.proofs.Below.{none_below}
use Rattle.space.proofs.Lies.{lies_le, lies_pos}
use Rattle.space.proofs.Depths.{place_of, place_below}
use Rattle.bits.specs.Bit.{bit}
use Rattle.bitmap.specs.Map.{has, first, share, marked, starts, map_out, map_meaning, Kept, Tidy}
use Rattle.space.proofs.Ranges.{size_pos}
use Rattle.bitmap.specs.Whole.{span, out_of, of_out}
use Rattle.bitmap.proofs.Units.{holder, hit_none, hit_some, busy_none, busy_some, busy_part}
use Rattle.bitmap.proofs.Words.{share_fits, marked-bit, starts-bit, kept_of, borne_of, has_parts}

-- what the answer of a scan says, by whether there is one
pub at_none : (o : Option ℕ) (P : Type 0) (Q : ℕ → Type 0) → MatchOption o P Q → is_some o ≡ false → P
at_none None P Q m e = m
at_none (Some i) P Q m e = absurd (both_ways true e refl)

pub at_some : (o : Option ℕ) (P : Type 0) (Q : ℕ → Type 0) → MatchOption o P Q → is_some o ≡ true → (i : ℕ) × Q i
at_some None P Q m e = absurd (both_ways false refl e)
at_some (Some i) P Q m e = (i, m)

module _ (d : ℕ) (ws : List ℕ) (n : ℕ) (at : is_place d n ≡ true) where
  -- the bits of the units of n
  here_marked : (u : ℕ) → u < first d n + size d n → marked d ws u ≡ bit ws u
  here_marked u hi = let s = span d n at in let f = share_fits d in marked-bit d ws u (omega arith)

  here_starts : (u : ℕ) → u < first d n + size d n → starts d ws u ≡ bit ws (64 * share d + u)
  here_starts u hi = let s = span d n at in let f = share_fits d in starts-bit d ws u (omega arith)

  -- n is not out
  pub out_no_start : bit ws (64 * share d + first d n) ≡ false → map_out d (marked d ws) (starts d ws) n ≡ false
  out_no_start f = false_from_ne_true (map_out d (marked d ws) (starts d ws) n) (λ e.
      let s = size_pos d n in
      both_ways (bit ws (64 * share d + first d n)) f (sym (here_starts (first d n) (omega arith)) ∙ (out_of d (marked d ws) (starts d ws) n e).is.start))

  pub out_gap : (u : ℕ) → first d n ≤ u → u < first d n + size d n → bit ws u ≡ false → map_out d (marked d ws) (starts d ws) n ≡ false
  out_gap u lo hi f = false_from_ne_true (map_out d (marked d ws) (starts d ws) n) (λ e.
      both_ways (bit ws u) f (sym (here_marked u hi) ∙ (out_of d (marked d ws) (starts d ws) n e).is.full u lo hi))

  pub out_second : (i : ℕ) → 64 * share d + first d n + 1 ≤ i → i < 64 * share d + (first d n + size d n) → bit ws i ≡ true → map_out d (marked d ws) (starts d ws) n ≡ false
  out_second i lo hi t = false_from_ne_true (map_out d (marked d ws) (starts d ws) n) (λ e.
      let b = 64 * share d in
      let q : b + (i - b) ≡ i = omega arith in
      both_ways (starts d ws (i - b)) ((out_of d (marked d ws) (starts d ws) n e).is.single (i - b) (omega arith) (omega arith)) (here_starts (i - b) (omega arith) ∙ ap (bit ws) q ∙ t))

  -- n is out if it does not go on
  pub out_rest : 0 < d → bit ws (64 * share d + first d n) ≡ true
      → ((u : ℕ) → first d n ≤ u → u < first d n + size d n → bit ws u ≡ true)
      → ((i : ℕ) → 64 * share d + first d n + 1 ≤ i → i < 64 * share d + (first d n + size d n) → bit ws i ≡ false)
      → not (marked d ws (first d n + size d n) && not (starts d ws (first d n + size d n))) ≡ map_out d (marked d ws) (starts d ws) n
  out_rest live st full single =
      let e = first d n + size d n in
      let s = size_pos d n in
      same_test (not (marked d ws e && not (starts d ws e))) (map_out d (marked d ws) (starts d ws) n)
      (λ t. of_out d (marked d ws) (starts d ws) n (record {
        live = live;
        at = at;
        is = record {
          start = here_starts (first d n) (omega arith) ∙ st;
          full = λ u lo hi. here_marked u hi ∙ full u lo hi;
          single = λ u lo hi. here_starts u hi ∙ single (64 * share d + u) (omega arith) (omega arith);
          ends = λ c. grind (arith, nat_tests);
        };
      }))
      (λ o. let ends = (out_of d (marked d ws) (starts d ws) n o).is.ends in grind (arith, nat_tests))

  module _ (tidy : Tidy d ws) where
    kept : Kept d (marked d ws) (starts d ws)
    kept = kept_of d (marked d ws) (starts d ws) tidy

    pub hit_at : (u : ℕ) → first d n ≤ u → u < first d n + size d n → bit ws u ≡ true → blocked (map_meaning d ws) n ≡ true
    hit_at u lo hi t = hit_some d (marked d ws) (starts d ws) n at u lo hi (holder d (marked d ws) (starts d ws) kept u (here_marked u hi ∙ t))

    pub hit_clear : ((u : ℕ) → first d n ≤ u → u < first d n + size d n → bit ws u ≡ false) → blocked (map_meaning d ws) n ≡ false
    hit_clear f = hit_none d (marked d ws) (starts d ws) n at (λ u lo hi. here_marked u hi ∙ f u lo hi)

    pub free_from : (r : ℕ) → r ≤ first d n + size d n → ((u : ℕ) → first d n ≤ u → u < r → bit ws u ≡ false) → (r < first d n + size d n → (first d n ≤ r) × (bit ws r ≡ true))
        → eqb r (first d n + size d n) ≡ not (blocked (map_meaning d ws) n)
    free_from r hi before found =
        ⊎_elim
        (λ q. eq-eqb r _ q ∙ sym (not_from_false _ (hit_clear (λ u a b. before u a (omega arith)))))
        (λ ne. let f = found (omega arith) in ne_eqb r _ ne ∙ sym (not_from_true _ (hit_at r f.0 (omega arith) f.1)))
        (cases_eq r (first d n + size d n))

    pub idle_from : ((i : ℕ) → 64 * share d + first d n ≤ i → i < 64 * share d + (first d n + size d n) → bit ws i ≡ false) → is_busy (map_meaning d ws) n ≡ false
    idle_from f = busy_none d (marked d ws) (starts d ws) n at (λ u lo hi. here_starts u hi ∙ f (64 * share d + u) (omega arith) (omega arith))

    pub busy_from : (i : ℕ) → 64 * share d + first d n ≤ i → i < 64 * share d + (first d n + size d n) → bit ws i ≡ true
        → not (marked d ws (first d n + size d n) && not (starts d ws (first d n + size d n))) ≡ is_busy (map_meaning d ws) n
    busy_from i lo hi t =
        let b = 64 * share d in
        let e = first d n + size d n in
        let q : b + (i - b) ≡ i = omega arith in
        let st : starts d ws (i - b) ≡ true = here_starts (i - b) (omega arith) ∙ ap (bit ws) q ∙ t in
        let borne = borne_of d (marked d ws) (starts d ws) tidy in
        ⊎_elim
        (λ x. let b = busy_part d (marked d ws) (starts d ws) n at kept (grind (arith, nat_tests)) (grind (arith, nat_tests)) in grind (arith, nat_tests))
        (λ x. let b = busy_some d (marked d ws) (starts d ws) n at kept borne (i - b) (omega arith) (omega arith) st (λ c. grind (arith, nat_tests)) in grind (arith, nat_tests))
        (cases_Bool (marked d ws e && not (starts d ws e)))

-- n is open where none of its bits is set
pub open_from : (d : ℕ) (ws : List ℕ) (n a e : ℕ) (o : Option ℕ) (r : Bool) → has d n ≡ true → (0 < d → Tidy d ws)
    → MatchOption o ((k : ℕ) → a ≤ k → k < e → bit ws k ≡ false) (λ i. (a ≤ i) × (i < e) × (bit ws i ≡ true) × ((k : ℕ) → a ≤ k → k < i → bit ws k ≡ false))
    → is_some o ≡ not r → a ≡ first d n → e ≡ first d n + size d n → r ≡ is_open (map_meaning d ws) n
open_from d ws n a e None r h tidy m q from to =
    let p = has_parts d n h in
    let b = hit_clear d ws n p.1 (tidy p.0) (λ u x y. m u (omega (arith, from)) (omega (arith, to))) in
    grind (arith, nat_tests)
open_from d ws n a e (Some i) r h tidy m q from to =
    let p = has_parts d n h in
    let b = hit_at d ws n p.1 (tidy p.0) i (omega (arith, m.0, from)) (omega (arith, m.1, to)) m.2 in
    grind (arith, nat_tests)

-- nothing is busy outside the map
pub busy_off : (d : ℕ) (ws : List ℕ) (w : ℕ) → has d w ≡ false → is_busy (map_meaning d ws) w ≡ false
busy_off d ws w outside =
    none_below (2 ^ (d + 1)) (λ k. map_out d (marked d ws) (starts d ws) k && lies k w)
    (λ k lt. false_from_ne_true (map_out d (marked d ws) (starts d ws) k && lies k w) (λ e.
    let t = and_parts (map_out d (marked d ws) (starts d ws) k) _ e in
    let o = out_of d (marked d ws) (starts d ws) k t.0 in
    let le = lies_le k w t.1 in
    let low = place_below d k o.at in
    both_ways (has d w) outside (and_from _ _ (lt-ltb 0 d o.live) (place_of d w (lies_pos k w t.1) (omega arith)))))
