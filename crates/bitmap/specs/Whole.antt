-- Places out as runs of units, and why no two of them overlap, whatever the words hold.
use Rattle.std.specs.Prelude.{◌≡◌, ℕ, ◌+◌, ◌-◌, ◌*◌, ◌^◌, ◌<◌, ◌≤◌, Bool, true, false, not, ◌&&◌, List, ◌≢◌, nat_lt}
use Rattle.std.proofs.Common.{sym}
use Rattle.std.proofs.Math.Logic.{⊎_elim}
use native.Mathlib.Omega.{arith}
use Rattle.std.proofs.lemmas.Bool.{cases_eq, cases_lt, or_cases, both_ways}
use Rattle.std.proofs.lemmas.Bool.Decides.{nat_tests}
use Rattle.space.specs.Places.{lies, overlap, is_place, size}
use Rattle.space.specs.Meaning.{Sound}
use Rattle.space.proofs.Below.{some_none, none_below}
use Rattle.space.proofs.Depths.{place_pos, depth_le, pow_more}
use Rattle.bitmap.specs.Map.{first, whole, map_out, marked, starts, map_meaning}
use Rattle.space.proofs.Ranges.{size_pos, range_within, range_lies, lies_both, range_nests, same_range}

-- the units of n
pub span : (d n : ℕ) → is_place d n ≡ true → (first d n + 2 ^ d ≡ n * size d n) × (first d n + size d n ≤ 2 ^ d)
unfolding first
span d n at =
    let r = range_within n d (place_pos d n at) (depth_le d n at) in
    let p = pow_more d in
    (omega arith, omega arith)

-- two places with a unit in common overlap
unit_lies : (d n u : ℕ) → is_place d n ≡ true → first d n ≤ u → u < first d n + size d n → lies (u + 2 ^ d) n ≡ true
unit_lies d n u at lo hi = let s = span d n at in range_lies d n (u + 2 ^ d) (place_pos d n at) (omega arith) (omega arith)

pub shared : (d n k u : ℕ) → is_place d n ≡ true → is_place d k ≡ true → first d n ≤ u → u < first d n + size d n → first d k ≤ u → u < first d k + size d k → overlap n k ≡ true
shared d n k u an ak a b x y = lies_both (u + 2 ^ d) n k (place_pos d n an) (place_pos d k ak) (unit_lies d n u an a b) (unit_lies d k u ak x y)

-- what lies in k has its units among those of k
pub nested : (d n k : ℕ) → is_place d n ≡ true → is_place d k ≡ true → lies n k ≡ true → (first d k ≤ first d n) × (first d n + size d n ≤ first d k + size d k)
nested d n k an ak l =
    let t = range_nests d n k (depth_le d n an) l in
    let a = span d n an in
    let b = span d k ak in
    (omega arith, omega arith)

-- a place is known by its units
pub same_place : (d n k : ℕ) → is_place d n ≡ true → is_place d k ≡ true → first d n ≡ first d k → size d n ≡ size d k → n ≡ k
same_place d n k an ak f s =
    let a = span d n an in
    let b = span d k ak in
    same_range d n k (omega arith) s

-- the parts of `whole`
pub record Whole (cov st : ℕ → Bool) (a s : ℕ) : Type 0 where
  pub start : st a ≡ true
  pub full : (u : ℕ) → a ≤ u → u < a + s → cov u ≡ true
  pub single : (u : ℕ) → a < u → u < a + s → st u ≡ false
  pub ends : cov (a + s) ≡ true → st (a + s) ≡ true

module _ (cov st : ℕ → Bool) (a s : ℕ) where
  pub whole_of : whole cov st a s ≡ true → Whole cov st a s
  unfolding whole
  whole_of e =
      let gap = some_none s (λ i. not (cov (a + i))) in
      let second = some_none s (λ i. nat_lt 0 i && st (a + i)) in
      record {
        start = grind (arith, nat_tests);
        full = λ u lo hi. let q : a + (u - a) ≡ u = omega arith in let x = gap (grind (arith, nat_tests)) (u - a) (omega arith) in grind (arith, nat_tests);
        single = λ u lo hi. let q : a + (u - a) ≡ u = omega arith in let x = second (grind (arith, nat_tests)) (u - a) (omega arith) in grind (arith, nat_tests);
        ends = λ c. grind (arith, nat_tests);
      }

  pub of_whole : Whole cov st a s → whole cov st a s ≡ true
  unfolding whole
  of_whole w =
      let start = w.start in
      let gap = none_below s (λ i. not (cov (a + i))) (λ i lt. let x = w.full (a + i) (omega arith) (omega arith) in grind (arith, nat_tests)) in
      let second = none_below s (λ i. nat_lt 0 i && st (a + i)) (λ i lt. let x = w.single (a + i) in grind (arith, nat_tests)) in
      let ends = w.ends in
      grind (arith, nat_tests)

pub record Out (d : ℕ) (cov st : ℕ → Bool) (n : ℕ) : Type 0 where
  pub live : 0 < d
  pub at : is_place d n ≡ true
  pub is : Whole cov st (first d n) (size d n)

module _ (d : ℕ) (cov st : ℕ → Bool) where
  pub out_of : (n : ℕ) → map_out d cov st n ≡ true → Out d cov st n
  out_of n e = record { live = grind (arith, nat_tests); at = grind (arith, nat_tests); is = whole_of cov st (first d n) (size d n) (grind (arith, nat_tests)) }

  pub of_out : (n : ℕ) → Out d cov st n → map_out d cov st n ≡ true
  of_out n o = let live = o.live in let at = o.at in let is = of_whole cov st (first d n) (size d n) o.is in grind (arith, nat_tests)

  -- a place out lies in no other
  never : (n k : ℕ) → Out d cov st n → Out d cov st k → lies n k ≡ true → (n ≢ k) → ⊥
  never n k o p l ne =
      let g = nested d n k o.at p.at l in
      let a = first d n in
      let b = first d k in
      let sn = size_pos d n in
      ⊎_elim
      (λ lt. both_ways (st a) (p.is.single a lt (omega arith)) o.is.start)
      (λ ge.
      let e : a ≡ b = omega arith in
      let more : a + size d n < b + size d k = ⊎_elim (λ q. absurd (ne (same_place d n k o.at p.at e q))) (λ nq. omega arith) (cases_eq (size d n) (size d k)) in
      both_ways (st (a + size d n)) (p.is.single (a + size d n) (omega arith) more) (o.is.ends (p.is.full (a + size d n) (omega arith) more)))
      (cases_lt b a)

  pub apart : (n k : ℕ) → Out d cov st n → Out d cov st k → overlap n k ≡ true → n ≡ k
  apart n k o p l =
      ⊎_elim (λ same. same)
      (λ ne. ⊎_elim
      (λ x. absurd (never n k o p x ne))
      (λ x. absurd (never k n p o x (λ q. ne (sym q))))
      (or_cases (lies n k) (lies k n) l))
      (cases_eq n k)

-- no invariant is needed for this
pub map_sound : (d : ℕ) (ws : List ℕ) → d ≤ 12 → Sound (map_meaning d ws)
map_sound d ws le = record {
  shallow = le;
  inside = λ n e. (out_of d (marked d ws) (starts d ws) n e).at;
  apart = λ n k e f l. apart d (marked d ws) (starts d ws) n k (out_of d (marked d ws) (starts d ws) n e) (out_of d (marked d ws) (starts d ws) k f) l;
}
