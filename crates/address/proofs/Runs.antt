-- Zero groups: where the leftmost run of two or more begins, along an index and in a whole list.
use Rattle.std.proofs.Common.{◌≡◌, ℕ, zero, suc, ◌+◌, ◌<◌, ◌≤◌, eqb, List, [], ◌∷◌, ◌++◌, length, get_or, drop, replicate, sym, refl, ap, ◌∙◌, subst, inl, inr, one-add, arith}
use native.Mathlib.Numerals.{unary_clauses}
use Rattle.std.proofs.lemmas.List.{drop_more, drop_all}
use Rattle.std.proofs.lemmas.List.Sums.{prefix_len-drop_yes, prefix_len-drop_no, prefix_len-le-length}
use Rattle.std.proofs.lemmas.Bool.{le-leb, lt-leb, eq-eqb, ne_eqb, cases_eq, cases_lt}
use Rattle.address.specs.Canonical.{run, zeros, TwoZeros}

run_first : (gs : List ℕ) → 2 ≤ zeros gs → run gs ≡ 0
run_first [] h = refl
run_first (g ∷ gs) h = let e = le-leb 2 (zeros (g ∷ gs)) h in rw e

run_later : (g : ℕ) (gs : List ℕ) → zeros (g ∷ gs) < 2 → run (g ∷ gs) ≡ suc (run gs)
run_later g gs h = let e = lt-leb 2 (zeros (g ∷ gs)) h in rw e

zero_more : (gs : List ℕ) → zeros (0 ∷ gs) ≡ suc (zeros gs)
zero_more gs = one-add (zeros gs)

zero_none : (g : ℕ) (gs : List ℕ) → (g ≡ 0 → ⊥) → zeros (g ∷ gs) ≡ 0
zero_none g gs n = let e = ne_eqb g 0 n in rw e

-- two zero groups begin a list, or fewer do
few : (gs : List ℕ) → (1 < length gs → TwoZeros gs 0 → ⊥) → zeros gs < 2
few [] h = omega arith
few (g ∷ []) h = omega (arith, prefix_len-le-length (λ x. eqb x 0) (g ∷ []))
few (g ∷ (f ∷ gs)) h =
    elim (cases_eq g 0) [
      | inl p ↦ let z = zero_none f gs (λ q. h (omega arith) (p, q)) in let e = eq-eqb g 0 p in rw (e, z) (omega arith)
      | inr n ↦ omega (arith, zero_none g (f ∷ gs) n)
    ]

two : (gs : List ℕ) → 1 < length gs → TwoZeros gs 0 → 2 ≤ zeros gs
two [] l h = absurd (omega arith)
two (g ∷ []) l h = absurd (omega arith)
two (g ∷ (f ∷ gs)) l h = let a = eq-eqb g 0 h.0 in let b = eq-eqb f 0 h.1 in rw (a, b) (omega arith)

module _ (gs : List ℕ) (i : ℕ) where
  pub zeros_more : i < length gs → get_or gs i 0 ≡ 0 → zeros (drop i gs) ≡ 1 + zeros (drop (i + 1) gs)
  zeros_more h e = prefix_len-drop_yes (λ g. eqb g 0) gs i 0 h (eq-eqb (get_or gs i 0) 0 e)

  pub zeros_none : i < length gs → (get_or gs i 0 ≡ 0 → ⊥) → zeros (drop i gs) ≡ 0
  zeros_none h n = prefix_len-drop_no (λ g. eqb g 0) gs i 0 h (ne_eqb (get_or gs i 0) 0 n)

  -- two zero groups begin a run
  pub run_here : i + 1 < length gs → get_or gs i 0 ≡ 0 → get_or gs (i + 1) 0 ≡ 0 → run (drop i gs) ≡ 0
  run_here h e f =
      let a = zeros_more (omega arith) e in
      let b = prefix_len-drop_yes (λ g. eqb g 0) gs (i + 1) 0 h (eq-eqb (get_or gs (i + 1) 0) 0 f) in
      run_first (drop i gs) (omega arith)

  -- fewer begin none
  pub run_step : i + 1 < length gs → (get_or gs i 0 ≡ 0 → get_or gs (i + 1) 0 ≡ 0 → ⊥) → run (drop i gs) ≡ 1 + run (drop (i + 1) gs)
  run_step h few =
      let e = drop_more gs i 0 (omega arith) in
      let z : zeros (drop i gs) < 2 = elim (cases_eq (get_or gs i 0) 0) [
        | inl p ↦ omega (arith, zeros_more (omega arith) p, prefix_len-drop_no (λ g. eqb g 0) gs (i + 1) 0 h (ne_eqb (get_or gs (i + 1) 0) 0 (few p)))
        | inr n ↦ omega (arith, zeros_none (omega arith) n)
      ] in
      ap run e ∙ run_later (get_or gs i 0) (drop (i + 1) gs) (rw e at z) ∙ sym (one-add (run (drop (i + 1) gs)))

  -- nor does the last group
  pub run_last : i + 1 ≡ length gs → run (drop i gs) ≡ 1
  run_last h =
      let e = drop_more gs i 0 (omega arith) ∙ ap (λ l. get_or gs i 0 ∷ l) (drop_all (i + 1) gs (omega arith)) in
      ap run e ∙ run_later (get_or gs i 0) [] (omega (arith, prefix_len-le-length (λ g. eqb g 0) (get_or gs i 0 ∷ [])))

-- the first two zero groups begin the run
pub run_at : (gs : List ℕ) (i : ℕ) → i + 1 < length gs → TwoZeros gs i → ((k : ℕ) → k < i → TwoZeros gs k → ⊥) → run gs ≡ i
run_at [] i l h none = absurd (omega arith)
run_at (g ∷ gs) zero l h none = run_first (g ∷ gs) (two (g ∷ gs) l h)
run_at (g ∷ gs) (suc i) l h none = run_later g gs (few (g ∷ gs) (λ _. none 0 (omega arith))) ∙ ap suc (run_at gs i (omega arith) (simp unary_clauses (simp unary_clauses at h)) (λ k a t. none (suc k) (omega arith) (simp unary_clauses (simp unary_clauses at t))))

-- and where there are none, there is no run
pub run_nowhere : (gs : List ℕ) → ((k : ℕ) → k + 1 < length gs → TwoZeros gs k → ⊥) → run gs ≡ length gs
run_nowhere [] none = refl
run_nowhere (g ∷ gs) none = run_later g gs (few (g ∷ gs) (none 0)) ∙ ap suc (run_nowhere gs (λ k l t. none (suc k) (omega arith) (simp unary_clauses (simp unary_clauses at t))))

-- a run within a list has two or more zero groups
pub run-zeros : (gs : List ℕ) → run gs < length gs → 2 ≤ zeros (drop (run gs) gs)
run-zeros [] h = absurd (omega arith)
run-zeros (g ∷ gs) h =
    elim (cases_lt (zeros (g ∷ gs)) 2) [
      | inl few ↦ let r = run_later g gs few in subst (λ n. 2 ≤ zeros (drop n (g ∷ gs))) (sym r) (run-zeros gs (omega arith))
      | inr two ↦ subst (λ n. 2 ≤ zeros (drop n (g ∷ gs))) (sym (run_first (g ∷ gs) two)) two
    ]

-- the zero groups that begin a list, and what follows them
pub zeros_split : (gs : List ℕ) → gs ≡ replicate (zeros gs) 0 ++ drop (zeros gs) gs
zeros_split [] = refl
zeros_split (zero ∷ gs) = subst (λ n. 0 ∷ gs ≡ replicate n 0 ++ drop n (0 ∷ gs)) (sym (zero_more gs)) (let e = zeros_split gs in cc)
zeros_split (suc g ∷ gs) = let e = zero_none (suc g) gs (λ p. omega arith) in rw e
