-- A place is taken or given in the two rows of bits: what else is out stays out.
use Rattle.std.proofs.Common.{◌≡◌, ℕ, ◌+◌, ◌-◌, ◌<◌, ◌≤◌, Bool, true, false, cond, not, ◌&&◌, ◌||◌, refl, ◌⊎◌, sym, ap, ◌∙◌, inl, inr, ⊎_elim, arith}
use mathlib.Core.Path.{fun_ext}
use Rattle.std.proofs.lemmas.Bool.{cases_eq, cases_lt, both_ways, false_from_ne_true}
use Rattle.std.proofs.lemmas.Bool.Decides.{nat_tests}
use Rattle.space.specs.Places.{is_place, size}
use Rattle.space.specs.Meaning.{adding, removing}
use Rattle.space.proofs.Truth.{same_test}
use Rattle.bits.specs.Bit.{within}
use Rattle.bitmap.specs.Map.{first, map_out, Kept, Borne}
use Rattle.space.proofs.Ranges.{size_pos}
use Rattle.bitmap.specs.Whole.{shared, Out, out_of, of_out, apart}
use Rattle.bitmap.proofs.Units.{holder, held_by}

-- a unit is before, in or behind a run
where_is : (a s u : ℕ) → ((a ≤ u) × (u < a + s)) ⊎ ((u < a) ⊎ (a + s ≤ u))
where_is a s u = ⊎_elim (λ lt. inr (inl lt)) (λ ge. ⊎_elim (λ lt. inl (ge, lt)) (λ le. inr (inr le)) (cases_lt u (a + s))) (cases_lt u a)

-- a place out stays out by bits that say the same of its units, if what follows them stays in that
same_out : (d : ℕ) (cov st cov' st' : ℕ → Bool) (k : ℕ) → Out d cov st k → ((u : ℕ) → first d k ≤ u → u < first d k + size d k → (cov' u ≡ cov u) × (st' u ≡ st u))
    → (cov' (first d k + size d k) ≡ true → st' (first d k + size d k) ≡ true) → Out d cov' st' k
same_out d cov st cov' st' k o same e =
    let s = size_pos d k in
    record {
      live = o.live;
      at = o.at;
      is = record {
        start = (same (first d k) (omega arith) (omega arith)).1 ∙ o.is.start;
        full = λ u lo hi. (same u lo hi).0 ∙ o.is.full u lo hi;
        single = λ u lo hi. (same u (omega arith) hi).1 ∙ o.is.single u lo hi;
        ends = e;
      };
    }

-- the units of n are marked and its first is a start, where out is true, and both are cleared where it is false
module _ (d : ℕ) (cov st cov' st' : ℕ → Bool) (n : ℕ) (out : Bool)
    (covs : (u : ℕ) → cov' u ≡ cond (within (first d n) (first d n + size d n) u) out (cov u))
    (sts : (u : ℕ) → st' u ≡ cond (within (first d n) (first d n + 1) u) out (st u)) where
  in_cov : (u : ℕ) → first d n ≤ u → u < first d n + size d n → cov' u ≡ out
  in_cov u lo hi = let c = covs u in grind (arith, nat_tests)

  off_cov : (u : ℕ) → (u < first d n) ⊎ (first d n + size d n ≤ u) → cov' u ≡ cov u
  off_cov u x = let c = covs u in grind (arith, nat_tests)

  at_st : st' (first d n) ≡ out
  at_st = let c = sts (first d n) in grind (arith, nat_tests)

  off_st : (u : ℕ) → (u ≡ first d n → ⊥) → st' u ≡ st u
  off_st u ne = let c = sts u in grind (arith, nat_tests)

  -- k has no unit in n
  abbrev Off : ℕ → Type 0
  Off k = (u : ℕ) → first d k ≤ u → u < first d k + size d k → first d n ≤ u → u < first d n + size d n → ⊥

  -- such a place has its old bits
  same_bits : (k : ℕ) → Off k → (u : ℕ) → first d k ≤ u → u < first d k + size d k → (cov' u ≡ cov u) × (st' u ≡ st u)
  same_bits k none u lo hi =
      let x = none u lo hi in
      let c = covs u in
      let t = sts u in
      let sn = size_pos d n in
      (grind (arith, nat_tests), grind (arith, nat_tests))

  -- n is taken
  module _ (yes : out ≡ true) (live : 0 < d) (at : is_place d n ≡ true) (kept : Kept d cov st) (borne : Borne cov st)
      (clear : (u : ℕ) → first d n ≤ u → u < first d n + size d n → cov u ≡ false) where
    own : Out d cov' st' n
    own =
        let sn = size_pos d n in
        let e = first d n + size d n in
        record {
          live = live;
          at = at;
          is = record {
            start = at_st ∙ yes;
            full = λ u lo hi. in_cov u lo hi ∙ yes;
            single = λ u lo hi. off_st u (λ q. omega arith) ∙ false_from_ne_true (st u) (λ s. both_ways (cov u) (clear u (omega arith) hi) (borne u s));
            ends = λ c.
                let h = holder d cov st kept e (sym (off_cov e (inr (omega arith))) ∙ c) in
                let k = h.who in
                ⊎_elim
                (λ lt.
                -- the place that follows began in n
                let t = h.to in
                absurd (both_ways (cov (e - 1)) (clear (e - 1) (omega arith) (omega arith)) (h.out.is.full (e - 1) (omega arith) (omega arith))))
                (λ ge. let q : e ≡ first d k = (let f = h.from in omega arith) in off_st e (λ z. omega arith) ∙ ap st q ∙ h.out.is.start)
                (cases_lt (first d k) e);
          };
        }

    stays : (k : ℕ) → Out d cov st k → Out d cov' st' k
    stays k o =
        let sk = size_pos d k in
        let sn = size_pos d n in
        let e = first d k + size d k in
        let none : Off k = λ u a b x y. both_ways (cov u) (clear u x y) (o.is.full u a b) in
        same_out d cov st cov' st' k o (same_bits k none)
        (λ c. let before = none (e - 1) in let follows = o.is.ends in let x = covs e in let y = sts e in grind (arith, nat_tests))

    was : (k : ℕ) → (k ≡ n → ⊥) → Out d cov' st' k → Out d cov st k
    was k ne o =
        let sk = size_pos d k in
        let sn = size_pos d n in
        let e = first d k + size d k in
        let none : Off k = λ u a b x y. ne (apart d cov' st' k n o own (shared d k n u o.at at a b x y)) in
        same_out d cov' st' cov st k o (λ u lo hi. let t = same_bits k none u lo hi in (sym t.0, sym t.1))
        (λ c. let at_n = clear e in let follows = o.is.ends in let x = covs e in let y = sts e in grind (arith, nat_tests))

    out_taken : map_out d cov' st' ≡ adding (map_out d cov st) n
    out_taken = fun_ext λ k.
        ⊎_elim
        (λ e. let o = ap (map_out d cov' st') e ∙ of_out d cov' st' n own in grind (arith, nat_tests))
        (λ ne. let o = same_test (map_out d cov' st' k) (map_out d cov st k) (λ x. of_out d cov st k (was k ne (out_of d cov' st' k x))) (λ x. of_out d cov' st' k (stays k (out_of d cov st k x))) in grind (arith, nat_tests))
        (cases_eq k n)

    kept_taken : Kept d cov' st'
    kept_taken u c = held_by d cov' st' u
        (⊎_elim
        (λ x. record { who = n; out = own; from = x.0; to = x.1 })
        (λ x. let h = holder d cov st kept u (sym (off_cov u x) ∙ c) in record { who = h.who; out = stays h.who h.out; from = h.from; to = h.to })
        (where_is (first d n) (size d n) u))

    borne_taken : Borne cov' st'
    borne_taken u s =
        let c = covs u in
        let t = sts u in
        let b = borne u in
        let sn = size_pos d n in
        grind (arith, nat_tests)

    pub taken : (map_out d cov' st' ≡ adding (map_out d cov st) n) × Kept d cov' st' × Borne cov' st'
    taken = (out_taken, kept_taken, borne_taken)

  -- n is given
  module _ (no : out ≡ false) (kept : Kept d cov st) (borne : Borne cov st) (was_out : Out d cov st n) where
    remains : (k : ℕ) → (k ≡ n → ⊥) → Out d cov st k → Out d cov' st' k
    remains k ne o =
        let sk = size_pos d k in
        let sn = size_pos d n in
        let e = first d k + size d k in
        let none : Off k = λ u a b x y. ne (apart d cov st k n o was_out (shared d k n u o.at was_out.at a b x y)) in
        same_out d cov st cov' st' k o (same_bits k none)
        (λ c. let follows = o.is.ends in let x = covs e in let y = sts e in grind (arith, nat_tests))

    had : (k : ℕ) → Out d cov' st' k → Out d cov st k
    had k o =
        let sk = size_pos d k in
        let sn = size_pos d n in
        let e = first d k + size d k in
        let none : Off k = λ u a b x y. both_ways (cov' u) (in_cov u x y ∙ no) (o.is.full u a b) in
        same_out d cov' st' cov st k o (λ u lo hi. let t = same_bits k none u lo hi in (sym t.0, sym t.1))
        (λ c. let before = none (e - 1) in let follows = o.is.ends in let x = covs e in let y = sts e in let start = was_out.is.start in grind (arith, nat_tests))

    out_given : map_out d cov' st' ≡ removing (map_out d cov st) n
    out_given = fun_ext λ k.
        ⊎_elim
        (λ e. let o = ap (map_out d cov' st') e ∙ false_from_ne_true (map_out d cov' st' n) (λ x. both_ways (st' (first d n)) (at_st ∙ no) (out_of d cov' st' n x).is.start) in grind (arith, nat_tests))
        (λ ne. let o = same_test (map_out d cov' st' k) (map_out d cov st k) (λ x. of_out d cov st k (had k (out_of d cov' st' k x))) (λ x. of_out d cov' st' k (remains k ne (out_of d cov st k x))) in grind (arith, nat_tests))
        (cases_eq k n)

    kept_given : Kept d cov' st'
    kept_given u c = held_by d cov' st' u
        (⊎_elim
        (λ x. absurd (both_ways (cov' u) (in_cov u x.0 x.1 ∙ no) c))
        (λ x.
        let h = holder d cov st kept u (sym (off_cov u x) ∙ c) in
        let ne : h.who ≡ n → ⊥ = λ q. (let a = h.from in let b = h.to in let f : first d h.who ≡ first d n = ap (first d) q in let s : size d h.who ≡ size d n = ap (size d) q in ⊎_elim (λ y. omega arith) (λ y. omega arith) x) in
        record { who = h.who; out = remains h.who ne h.out; from = h.from; to = h.to })
        (where_is (first d n) (size d n) u))

    borne_given : Borne cov' st'
    borne_given u s =
        let c = covs u in
        let t = sts u in
        let b = borne u in
        let single = was_out.is.single u in
        grind (arith, nat_tests)

    pub given : (map_out d cov' st' ≡ removing (map_out d cov st) n) × Kept d cov' st' × Borne cov' st'
    given = (out_given, kept_given, borne_given)

-- n is taken: its units are marked, its first is a start
module _ (d : ℕ) (cov st cov' st' : ℕ → Bool) (n : ℕ) (live : 0 < d) (at : is_place d n ≡ true) (kept : Kept d cov st) (borne : Borne cov st)
    (clear : (u : ℕ) → first d n ≤ u → u < first d n + size d n → cov u ≡ false)
    (covs : (u : ℕ) → cov' u ≡ (within (first d n) (first d n + size d n) u || cov u))
    (sts : (u : ℕ) → st' u ≡ (within (first d n) (first d n + 1) u || st u)) where
  takes : (map_out d cov' st' ≡ adding (map_out d cov st) n) × Kept d cov' st' × Borne cov' st'
  takes = taken d cov st cov' st' n true (λ u. let c = covs u in grind (arith, nat_tests)) (λ u. let s = sts u in grind (arith, nat_tests)) refl live at kept borne clear

  pub taken_out : map_out d cov' st' ≡ adding (map_out d cov st) n
  taken_out = takes.0

  pub taken_kept : Kept d cov' st'
  taken_kept = takes.1

  pub taken_borne : Borne cov' st'
  taken_borne = takes.2

-- n is given: its units and its start are cleared
module _ (d : ℕ) (cov st cov' st' : ℕ → Bool) (n : ℕ) (kept : Kept d cov st) (borne : Borne cov st) (out : Out d cov st n)
    (covs : (u : ℕ) → cov' u ≡ (not (within (first d n) (first d n + size d n) u) && cov u))
    (sts : (u : ℕ) → st' u ≡ (not (within (first d n) (first d n + 1) u) && st u)) where
  gives : (map_out d cov' st' ≡ removing (map_out d cov st) n) × Kept d cov' st' × Borne cov' st'
  gives = given d cov st cov' st' n false (λ u. let c = covs u in grind (arith, nat_tests)) (λ u. let s = sts u in grind (arith, nat_tests)) refl kept borne out

  pub given_out : map_out d cov' st' ≡ removing (map_out d cov st) n
  given_out = gives.0

  pub given_kept : Kept d cov' st'
  given_kept = gives.1

  pub given_borne : Borne cov' st'
  given_borne = gives.2
