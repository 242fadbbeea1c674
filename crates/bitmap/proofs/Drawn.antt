-- The set of places out says what every bit, and so every word, of the two shares is.
use Rattle.std.proofs.Common.{◌≡◌, ℕ, zero, suc, ◌+◌, ◌-◌, ◌*◌, ◌/◌, ◌%◌, ◌^◌, ◌<◌, ◌≤◌, Bool, true, cond, ◌&&◌, eqb, List, length, get_or, take, sym, ap, ◌∙◌, ap₂, ⊎_elim, arith}
use Rattle.std.proofs.lemmas.Nat.{mod-pow-add}
use Rattle.std.proofs.lemmas.List.FromFn.{fill_by_all}
use Rattle.std.proofs.lemmas.List.{length-take-le, get_or-take}
use Rattle.std.proofs.lemmas.Bool.{cases_lt, and_parts, and_from, both_ways, eq-eqb, eqb-true}
use Rattle.std.proofs.lemmas.Bool.Decides.{nat_tests}
use Rattle.space.specs.Bounded.{some_below, sum_below}
use Rattle.space.specs.Places.{size}
use Rattle.space.proofs.Below.{some_here, some_has, sum_same}
use Rattle.space.proofs.Depths.{place_below}
use Rattle.space.proofs.Truth.{same_test}
use Rattle.bits.specs.Bit.{on, bit, within}
use Rattle.bitmap.specs.Map.{share, first, marked, starts, map_out, covered, begun, pin, word_of, drawn, Tidy}
use Rattle.bitmap.specs.Whole.{out_of, of_out}
use Rattle.bitmap.proofs.Units.{Holder, holder}
use Rattle.bitmap.proofs.Words.{marked-bit, starts-bit, kept_of, borne_of}

-- a start is the first unit of the place that holds it
first_start : (d : ℕ) (cov st : ℕ → Bool) (u : ℕ) → (h : Holder d cov st u) → st u ≡ true → u ≡ first d h.who
first_start d cov st u h s =
    ⊎_elim
    (λ x. absurd (both_ways (st u) (h.out.is.single u x h.to) s))
    (λ x. let f = h.from in omega arith)
    (cases_lt (first d h.who) u)

-- each bit by the set
module _ (d : ℕ) (ws : List ℕ) (tidy : Tidy d ws) where
  mark_pinned : (u : ℕ) → u < 64 * share d → bit ws u ≡ covered d (map_out d (marked d ws) (starts d ws)) u
  mark_pinned u lt =
      let p : ℕ → Bool = λ k. map_out d (marked d ws) (starts d ws) k && within (first d k) (first d k + size d k) u in
      same_test (bit ws u) (some_below (2 ^ (d + 1)) p)
      (λ on. kept_of d (marked d ws) (starts d ws) tidy u (marked-bit d ws u lt ∙ on))
      (λ s.
      let t = some_has (2 ^ (d + 1)) p s in
      let x = t.2 in
      sym (marked-bit d ws u lt) ∙ (out_of d (marked d ws) (starts d ws) t.0 (grind (arith, nat_tests))).is.full u (grind (arith, nat_tests)) (grind (arith, nat_tests)))

  start_pinned : (u : ℕ) → u < 64 * share d → bit ws (64 * share d + u) ≡ begun d (map_out d (marked d ws) (starts d ws)) u
  start_pinned u lt =
      let here = starts-bit d ws u lt in
      let p : ℕ → Bool = λ k. map_out d (marked d ws) (starts d ws) k && eqb (first d k) u in
      same_test (bit ws (64 * share d + u)) (some_below (2 ^ (d + 1)) p)
      (λ on.
      let st : starts d ws u ≡ true = here ∙ on in
      let h = holder d (marked d ws) (starts d ws) (kept_of d (marked d ws) (starts d ws) tidy) u (borne_of d (marked d ws) (starts d ws) tidy u st) in
      let k = h.who in
      let own = first_start d (marked d ws) (starts d ws) u h st in
      some_here (2 ^ (d + 1)) p k (place_below d k h.out.at) (and_from _ _ (of_out d (marked d ws) (starts d ws) k h.out) (eq-eqb (first d k) u (sym own))))
      (λ s.
      let t = some_has (2 ^ (d + 1)) p s in
      let x = and_parts (map_out d (marked d ws) (starts d ws) t.0) _ t.2 in
      let own = eqb-true (first d t.0) u x.1 in
      sym here ∙ ap (starts d ws) (sym own) ∙ (out_of d (marked d ws) (starts d ws) t.0 x.0).is.start)

  pinned : (i : ℕ) → i < 128 * share d → bit ws i ≡ pin d (map_out d (marked d ws) (starts d ws)) i
  pinned i lt =
      ⊎_elim
      (λ l. let m = mark_pinned i l in grind (arith, nat_tests))
      (λ g.
      let q : 64 * share d + (i - 64 * share d) ≡ i = omega arith in
      let m = ap (bit ws) (sym q) ∙ start_pinned (i - 64 * share d) (omega arith) in
      grind (arith, nat_tests))
      (cases_lt i (64 * share d))

-- a number of n digits is the sum of its set digits
digit_value : (x p : ℕ) → x < 2 → cond (eqb x 1) p 0 ≡ x * p
digit_value x p lt = grind (arith, nat_tests)

digit_sum : (n w : ℕ) → sum_below n (λ i. cond (on w i) (2 ^ i) 0) ≡ w % 2 ^ n
unfolding sum_below
digit_sum zero w = omega arith
digit_sum (suc n) w =
    let e : 1 + n ≡ suc n = omega arith in
    ap₂ (λ x y. x + y) (digit_value (w / 2 ^ n % 2) (2 ^ n) (omega arith)) (digit_sum n w) ∙ sym (mod-pow-add w 1 n) ∙ ap (λ x. w % 2 ^ x) e

-- each word by the set
module _ (d : ℕ) (ws : List ℕ) (tidy : Tidy d ws) where
  word_drawn : (j : ℕ) → j < 2 * share d → get_or ws j 0 < 2 ^ 64 → get_or ws j 0 ≡ word_of d (map_out d (marked d ws) (starts d ws)) j
  word_drawn j lt fit =
      let w = get_or ws j 0 in
      let low : w % 2 ^ 64 ≡ w = omega arith in
      let same : (i : ℕ) → i < 64 → on w i ≡ pin d (map_out d (marked d ws) (starts d ws)) (64 * j + i) = λ i h.
      let q : (64 * j + i) / 64 ≡ j = omega arith in
      let r : (64 * j + i) % 64 ≡ i = omega arith in
      sym (ap₂ (λ x y. on (get_or ws x 0) y) q r) ∙ pinned d ws tidy (64 * j + i) (omega arith) in
      sym low ∙ sym (digit_sum 64 w) ∙ sum_same 64 _ _ (λ i h. ap (λ t. cond t (2 ^ i) 0) (same i h))

  pub all_drawn : 2 * share d ≤ length ws → ((j : ℕ) → get_or ws j 0 < 2 ^ 64) → take (2 * share d) ws ≡ drawn d (map_out d (marked d ws) (starts d ws))
  all_drawn le fits =
      let n = 2 * share d in
      fill_by_all (word_of d (map_out d (marked d ws) (starts d ws))) (take n ws) n 0 (length-take-le n ws le) (λ j lt. get_or-take n ws j 0 lt ∙ word_drawn j lt (fits j))
