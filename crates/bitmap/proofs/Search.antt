-- A search among the places of one depth.
use Rattle.std.proofs.Common.{◌≡◌, ℕ, ◌+◌, ◌-◌, ◌*◌, ◌/◌, ◌%◌, ◌^◌, ◌<◌, ◌≤◌, min, true, false, List, Option, None, Some, MatchOption, unwrap_or, sym, ap, ◌∙◌, ⊎_elim, add-mul, arith, pow_pos, pow_mono}
use Rattle.std.proofs.lemmas.Bool.{cases_eq, cases_lt, both_ways}
use Rattle.std.proofs.lemmas.Nat.{mul-le, div-add-mod', mod_below}
use Rattle.space.specs.Places.{is_place, size}
use Rattle.space.specs.Meaning.{blocked}
use Rattle.space.proofs.Depths.{depth_is, place_of}
use Rattle.bits.specs.Bit.{bit}
use Rattle.bitmap.specs.Map.{first, map_meaning, Tidy}
use Rattle.bitmap.specs.Whole.{span}
use Rattle.bitmap.proofs.Scans.{hit_at}

-- a quotient rounded up
module _ (x s i : ℕ) (pos : 0 < s) where
  pub up_less : i < x / s + min 1 (x % s) → i * s < x
  up_less lt =
      let q = x / s in
      let e = div-add-mod' x s in
      ⊎_elim
      (λ a. let m : (i + 1) * s ≤ q * s = mul-le (i + 1) s q s (omega arith) (omega arith) in let n = add-mul i 1 s in omega arith)
      (λ b. let z : i ≡ q = omega arith in let m : i * s ≡ q * s = ap (λ y. y * s) z in omega arith)
      (cases_lt i q)

  pub up_past : i * s < x → i < x / s + min 1 (x % s)
  up_past lt =
      let q = x / s in
      let e = div-add-mod' x s in
      let r = mod_below x s pos in
      ⊎_elim
      (λ a. omega arith)
      (λ b. ⊎_elim
      (λ more. let m : (q + 1) * s ≤ i * s = mul-le (q + 1) s i s (omega arith) (omega arith) in let n = add-mul q 1 s in absurd (omega arith))
      (λ le. let z : i ≡ q = omega arith in let m : i * s ≡ q * s = ap (λ y. y * s) z in omega arith)
      (cases_lt q i))
      (cases_lt i q)

-- behind the set bit u, the first clear bit z
pub clear_past : (ws : List ℕ) (u z e : ℕ) → u < e → bit ws u ≡ true → (z < e → (u ≤ z) × (bit ws z ≡ false)) → u < z
clear_past ws u z e lt set found =
    ⊎_elim
    (λ l. let f = found l in ⊎_elim (λ q. absurd (both_ways (bit ws u) (ap (bit ws) q ∙ f.1) set)) (λ ne. omega (arith, f.0)) (cases_eq u z))
    (λ g. omega arith)
    (cases_lt z e)

-- behind the set bit u, the first clear bit z, or e where there is none
pub clear_behind : (ws : List ℕ) (u e z : ℕ) (o : Option ℕ) → u < e → bit ws u ≡ true
    → MatchOption o ((k : ℕ) → u ≤ k → k < e → bit ws k ≡ true) (λ i. (u ≤ i) × (i < e) × (bit ws i ≡ false) × ((k : ℕ) → u ≤ k → k < i → bit ws k ≡ true))
    → z ≡ unwrap_or o e → (u < z) × ((k : ℕ) → u ≤ k → k < z → bit ws k ≡ true)
clear_behind ws u e z None lt set m q = (omega arith, λ k lo hi. m k lo (omega arith))
clear_behind ws u e z (Some i) lt set m q = (
  ⊎_elim (λ x. absurd (both_ways (bit ws u) (ap (bit ws) x ∙ m.2) set)) (λ ne. omega (arith, m.0)) (cases_eq u i),
  λ k lo hi. m.3 k lo (omega arith),
)

-- the s units of place j in a map of depth t, which has `top` units
pub record Run (t j s top : ℕ) : Type 0 where
  pub at : is_place t j ≡ true
  pub wide : size t j ≡ s
  pub from : first t j + top ≡ j * s
  pub to : first t j + s ≤ top
  pub some : 0 < s

pub run_at : (t d j s top : ℕ) → s ≡ 2 ^ (t - d) → top ≡ 2 ^ t → d ≤ t → 2 ^ d ≤ j → j < 2 ^ (d + 1) → Run t j s top
run_at t d j s top se te le lo hi =
    let more : d + 1 ≤ t + 1 = omega arith in
    let m : 2 ^ (d + 1) ≤ 2 ^ (t + 1) = pow_mono more in
    let at = place_of t j (omega (arith, pow_pos d)) (omega arith) in
    let w : size t j ≡ s = ap (λ l. 2 ^ (t - l)) (depth_is d j lo hi) ∙ sym se in
    let z = ap (λ x. j * x) w in
    let u = span t j at in
    record { at = at; wide = w; from = omega arith; to = omega arith; some = omega (arith, pow_pos (t - d)) }

-- places of s units each: i begins before unit z, and is j or behind it, where c to z is marked and c is a unit of j
pub skipped : (t : ℕ) (ws : List ℕ) (j c z i s top : ℕ) → Tidy t ws → Run t i s top → j ≤ i
    → j * s ≤ c + top → c + top < j * s + s → ((u : ℕ) → c ≤ u → u < z → bit ws u ≡ true) → c < z → i * s < z + top → blocked (map_meaning t ws) i ≡ true
skipped t ws j c z i s top tidy r ji a b all cz before =
    ⊎_elim
    (λ q. let m = ap (λ x. x * s) q in hit_at t ws i r.at tidy c (omega arith) (omega arith) (all c (omega arith) cz))
    (λ ne.
    let m : (j + 1) * s ≤ i * s = mul-le (j + 1) s i s (omega arith) (omega arith) in
    let n = add-mul j 1 s in
    let p = r.some in
    let f = r.from in
    hit_at t ws i r.at tidy (first t i) (omega arith) (omega arith) (all (first t i) (omega arith) (omega arith)))
    (cases_eq i j)
