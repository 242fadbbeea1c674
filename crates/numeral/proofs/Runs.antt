-- The longest front of a list that passes a test, and what follows it.
use Rattle.std.proofs.Common.{◌≡◌, ℕ, suc, Bool, true, false, cond, List, [], ◌∷◌, ◌++◌, length, take, drop, sym, refl, ap, ◌∙◌, subst, one-add}
use Rattle.std.specs.List.{prefix_len, AllByRecursion as All}
use Rattle.std.proofs.lemmas.List.{take_at, drop_at}

module _ {X : Type 0} (p : X → Bool) where
  -- each element passes
  abbrev pub Passes : List X → Type 0
  Passes xs = All (λ x. p x ≡ true) xs

  passes_by : (x : X) (xs : List X) (n : ℕ) (b : Bool) → p x ≡ b → Passes (take n xs) → Passes (take (cond b (suc n) 0) (x ∷ xs))
  passes_by x xs n true e h = (e, h)
  passes_by x xs n false e h = tt

  pub passes_front : (xs : List X) → Passes (take (prefix_len p xs) xs)
  passes_front [] = tt
  passes_front (x ∷ xs) = subst (λ n. Passes (take (cond (p x) n 0) (x ∷ xs))) (sym (one-add (prefix_len p xs))) (passes_by x xs (prefix_len p xs) (p x) refl (passes_front xs))

  stops_by : (x : X) (xs : List X) (n : ℕ) (b : Bool) → p x ≡ b → prefix_len p (drop n xs) ≡ 0 → prefix_len p (drop (cond b (suc n) 0) (x ∷ xs)) ≡ 0
  stops_by x xs n true e h = h
  stops_by x xs n false e h = rw e

  pub leading_rest : (xs : List X) → prefix_len p (drop (prefix_len p xs) xs) ≡ 0
  leading_rest [] = refl
  leading_rest (x ∷ xs) = subst (λ n. prefix_len p (drop (cond (p x) n 0) (x ∷ xs)) ≡ 0) (sym (one-add (prefix_len p xs))) (stops_by x xs (prefix_len p xs) (p x) refl (leading_rest xs))

  pub leading_append : (xs rest : List X) → Passes xs → prefix_len p rest ≡ 0 → prefix_len p (xs ++ rest) ≡ length xs
  leading_append [] rest h none = none
  leading_append (x ∷ xs) rest h none = let e = h.0 in rw e (one-add (prefix_len p (xs ++ rest)) ∙ ap suc (leading_append xs rest h.1 none))

  pub take_leading : (xs rest : List X) → Passes xs → prefix_len p rest ≡ 0 → take (prefix_len p (xs ++ rest)) (xs ++ rest) ≡ xs
  take_leading xs rest h none = take_at xs rest (prefix_len p (xs ++ rest)) (sym (leading_append xs rest h none))

  pub drop_leading : (xs rest : List X) → Passes xs → prefix_len p rest ≡ 0 → drop (prefix_len p (xs ++ rest)) (xs ++ rest) ≡ rest
  drop_leading xs rest h none = drop_at xs rest (prefix_len p (xs ++ rest)) (sym (leading_append xs rest h none))
