-- A text spells at most one address and length.
use Rattle.std.proofs.Common.{◌≡◌, ℕ, ◌≤◌, List, ◌∷◌, ◌++◌, decimal, sym, refl, ◌∙◌, subst, arith}
use Rattle.std.specs.Str.Parse.{AllDigits, digits_value}
use Rattle.std.specs.Str.Iter.{LacksByte}
use Rattle.std.proofs.lemmas.Fmt.{decimal_is_IsNumeral, decimal_injective}
use Rattle.std.proofs.lemmas.Str.Parse.{not_in_digits}
use Rattle.text.specs.Texts.{PrefixText}
use Rattle.text.proofs.Slashes.{not_lacking, cut_one}

-- digits have no slash among them
pub decimal_plain : (l : ℕ) → l ≤ 65535 → LacksByte 47 (decimal l)
decimal_plain l small =
    not_in_digits {P = AllDigits 10} {v = digits_value 10} (record { to = λ _ d. d; from = λ _ d. d; same = λ _ _. refl }) (decimal l) 47 (decimal_is_IsNumeral l (omega arith)).0.1 (λ r. omega arith)

module _ (spelt : List ℕ → ℕ → Type 0) (text : List ℕ) where
  -- a prefix's text has a slash
  pub has_slash : (n l : ℕ) → PrefixText spelt text n l → LacksByte 47 text → ⊥
  has_slash n l t none = not_lacking t.address (decimal l) (subst (LacksByte 47) t.whole none)

  -- cut at its last slash, it is the address and the length
  pub parts_one : (a b : List ℕ) → text ≡ a ++ (47 ∷ b) → LacksByte 47 b → (n l : ℕ) → (t : PrefixText spelt text n l) → (spelt a n) × (b ≡ decimal l)
  parts_one a b e none n l t =
      let c = cut_one a b t.address (decimal l) (sym e ∙ t.whole) none (decimal_plain l t.small) in
      (subst (λ x. spelt x n) (sym c.0) t.first, c.1)

  pub spelt_one : ((t : List ℕ) (m n : ℕ) → spelt t m → spelt t n → m ≡ n) → (m k n l : ℕ) → PrefixText spelt text m k → PrefixText spelt text n l → (m ≡ n) × (k ≡ l)
  spelt_one single m k n l s t =
      let p = parts_one s.address (decimal k) s.whole (decimal_plain k s.small) n l t in
      (single s.address m n s.first p.0, decimal_injective k l (omega (arith, s.small)) (omega (arith, t.small)) p.1)
