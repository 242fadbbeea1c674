-- Whose a marked unit is, and what that says of a place.
use Rattle.std.proofs.Common.{◌≡◌, ℕ, ◌+◌, ◌-◌, ◌^◌, ◌<◌, ◌≤◌, Bool, true, false, ◌&&◌, sym, ap, ◌∙◌, ⊎_elim, arith}
use Rattle.std.proofs.lemmas.Bool.{cases_lt, and_parts, and_from, or_cases, both_ways, false_from_ne_true}
use Rattle.std.proofs.lemmas.Bool.Decides.{nat_tests}
use Rattle.space.specs.Bounded.{some_below}
use Rattle.space.specs.Places.{lies, overlap, is_place, size}
use Rattle.space.proofs.Depths.{place_below, place_pos}
use Rattle.space.proofs.Lies.{lies_self}
use Rattle.space.proofs.Below.{some_here, some_has, none_below}
use Rattle.bits.specs.Bit.{within}
use Rattle.bitmap.specs.Map.{first, map_out, covered, Kept, Borne}
use Rattle.space.proofs.Ranges.{size_pos}
use Rattle.bitmap.specs.Whole.{nested, shared, same_place, Out, out_of, of_out, apart}

module _ (d : ℕ) (cov st : ℕ → Bool) where
  -- a place out with the unit u
  pub record Holder (u : ℕ) : Type 0 where
    pub who : ℕ
    pub out : Out d cov st who
    pub from : first d who ≤ u
    pub to : u < first d who + size d who

module _ (d : ℕ) (cov st : ℕ → Bool) (kept : Kept d cov st) where
  pub holder : (u : ℕ) → cov u ≡ true → Holder d cov st u
  holder u c =
      let t = some_has (2 ^ (d + 1)) (λ k. map_out d cov st k && within (first d k) (first d k + size d k) u) (kept u c) in
      let p = t.2 in
      record { who = t.0; out = out_of d cov st t.0 (grind (arith, nat_tests)); from = grind (arith, nat_tests); to = grind (arith, nat_tests) }

-- the other way round
pub held_by : (d : ℕ) (cov st : ℕ → Bool) (u : ℕ) → Holder d cov st u → covered d (map_out d cov st) u ≡ true
held_by d cov st u h =
    some_here (2 ^ (d + 1)) (λ k. map_out d cov st k && within (first d k) (first d k + size d k) u) h.who (place_below d h.who h.out.at)
    (let o = of_out d cov st h.who h.out in let from = h.from in let to = h.to in grind (arith, nat_tests))

module _ (d : ℕ) (cov st : ℕ → Bool) (n : ℕ) (at : is_place d n ≡ true) where
  -- a place out that overlaps n has a unit in n
  pub meets_in : (k : ℕ) → Out d cov st k → overlap k n ≡ true → (u : ℕ) × (first d n ≤ u) × (u < first d n + size d n) × (first d k ≤ u) × (u < first d k + size d k)
  meets_in k o l =
      let a = size_pos d n in
      let b = size_pos d k in
      ⊎_elim
      (λ x. let g = nested d k n o.at at x in (first d k, g.0, omega arith, omega arith, omega arith))
      (λ x. let g = nested d n k at o.at x in (first d n, omega arith, omega arith, g.0, omega arith))
      (or_cases (lies k n) (lies n k) l)

  -- no unit of n is marked: n overlaps nothing
  pub clear_free : ((u : ℕ) → first d n ≤ u → u < first d n + size d n → cov u ≡ false) → (k : ℕ) → Out d cov st k → overlap k n ≡ true → ⊥
  clear_free clear k o l = let t = meets_in k o l in both_ways (cov t.0) (clear t.0 t.1 t.2) (o.is.full t.0 t.3 t.4)

  pub hit_none : ((u : ℕ) → first d n ≤ u → u < first d n + size d n → cov u ≡ false) → some_below (2 ^ (d + 1)) (λ k. map_out d cov st k && overlap k n) ≡ false
  hit_none clear =
      none_below (2 ^ (d + 1)) (λ k. map_out d cov st k && overlap k n)
      (λ k lt. false_from_ne_true (map_out d cov st k && overlap k n) (λ e.
      let t = and_parts (map_out d cov st k) _ e in
      let o = out_of d cov st k t.0 in
      let m = meets_in k o t.1 in
      both_ways (cov m.0) (clear m.0 m.1 m.2) (o.is.full m.0 m.3 m.4)))

  pub hit_some : (u : ℕ) → first d n ≤ u → u < first d n + size d n → Holder d cov st u → some_below (2 ^ (d + 1)) (λ k. map_out d cov st k && overlap k n) ≡ true
  hit_some u lo hi h =
      some_here (2 ^ (d + 1)) (λ k. map_out d cov st k && overlap k n) h.who (place_below d h.who h.out.at)
      (and_from _ _ (of_out d cov st h.who h.out) (shared d h.who n u h.out.at at h.from h.to lo hi))

  -- some start in n, and what follows n is no more of the place before it: a place out lies in n
  pub busy_some : Kept d cov st → Borne cov st → (u : ℕ) → first d n ≤ u → u < first d n + size d n → st u ≡ true → (cov (first d n + size d n) ≡ true → st (first d n + size d n) ≡ true)
      → some_below (2 ^ (d + 1)) (λ k. map_out d cov st k && lies k n) ≡ true
  busy_some kept borne u lo hi s e =
      let h = holder d cov st kept u (borne u s) in
      let k = h.who in
      let o = h.out in
      let sn = size_pos d n in
      some_here (2 ^ (d + 1)) (λ k. map_out d cov st k && lies k n) k (place_below d k o.at)
      (and_from _ _ (of_out d cov st k o)
      (⊎_elim
      (λ x. x)
      (λ x.
      -- n lies in k: then k goes on behind n, unless it is n
      let g = nested d n k at o.at x in
      let own : u ≡ first d k = ⊎_elim (λ lt. absurd (both_ways (st u) (o.is.single u lt h.to) s)) (λ ge. let f = h.from in omega arith) (cases_lt (first d k) u) in
      ⊎_elim
      (λ lt. absurd (both_ways (st (first d n + size d n)) (o.is.single (first d n + size d n) (omega arith) lt) (e (o.is.full (first d n + size d n) (omega arith) lt))))
      (λ ge. let q = sym (same_place d n k at o.at (omega arith) (omega arith)) in ap (λ z. lies z n) q ∙ lies_self n (place_pos d n at))
      (cases_lt (first d n + size d n) (first d k + size d k)))
      (or_cases (lies k n) (lies n k) (shared d k n u o.at at h.from h.to lo hi))))

  -- no start in n: no place out lies in n
  pub busy_none : ((u : ℕ) → first d n ≤ u → u < first d n + size d n → st u ≡ false) → some_below (2 ^ (d + 1)) (λ k. map_out d cov st k && lies k n) ≡ false
  busy_none clear =
      none_below (2 ^ (d + 1)) (λ k. map_out d cov st k && lies k n)
      (λ k lt. false_from_ne_true (map_out d cov st k && lies k n) (λ e.
      let t = and_parts (map_out d cov st k) _ e in
      let o = out_of d cov st k t.0 in
      let g = nested d k n o.at at t.1 in
      let s = size_pos d k in
      both_ways (st (first d k)) (clear (first d k) g.0 (omega arith)) o.is.start))

  -- n is part of a larger place out: none lies in n
  pub busy_part : Kept d cov st → cov (first d n + size d n) ≡ true → st (first d n + size d n) ≡ false → some_below (2 ^ (d + 1)) (λ k. map_out d cov st k && lies k n) ≡ false
  busy_part kept c s =
      let e = first d n + size d n in
      let h = holder d cov st kept e c in
      let m = h.who in
      let sn = size_pos d n in
      let before : first d m < e = ⊎_elim (λ lt. lt) (λ ge. absurd (both_ways (st e) s (ap st (let q : e ≡ first d m = (let f = h.from in omega arith) in q) ∙ h.out.is.start))) (cases_lt (first d m) e) in
      none_below (2 ^ (d + 1)) (λ k. map_out d cov st k && lies k n)
      (λ k lt. false_from_ne_true (map_out d cov st k && lies k n) (λ b.
      let t = and_parts (map_out d cov st k) _ b in
      let o = out_of d cov st k t.0 in
      let g = nested d k n o.at at t.1 in
      let sk = size_pos d k in
      let over : overlap n m ≡ true = shared d n m (e - 1) at h.out.at (omega arith) (omega arith) (omega arith) (let z = h.to in omega arith) in
      ⊎_elim
      (λ x.
      -- m holds k too, so m is k, but k ends in n
      let y = nested d n m at h.out.at x in
      let q : k ≡ m = apart d cov st k m o h.out (shared d k m (first d k) o.at h.out.at (omega arith) (omega arith) (omega arith) (omega arith)) in
      let z = h.to in
      let w : first d k + size d k ≡ first d m + size d m = ap (λ x. first d x + size d x) q in
      omega arith)
      (λ x. let y = nested d m n h.out.at at x in let z = h.to in omega arith)
      (or_cases (lies n m) (lies m n) over)))
