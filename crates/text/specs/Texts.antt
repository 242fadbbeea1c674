-- The texts of prefixes, of any family: the text of the first address, a slash, and the length in
-- decimal. A family says by a relation which texts spell which address.
use Rattle.std.specs.Prelude.{◌≡◌, ℕ, ◌≤◌, ◌⊎◌, List, ◌∷◌, ◌++◌, Some, decimal}
use Rattle.fault.specs.Causes.{alone}
use Rattle.fault.specs.declared.Cause.TheVariants.{Malformed}
use Rattle.fault.specs.declared.Fault.{Fault}
use Rattle.prefix.specs.Form.{Block}
use Rattle.prefix.specs.Prefixes.{refusal}

-- the text spells address n and length l, as bare numbers: they need not make a prefix
pub record PrefixText (spelt : List ℕ → ℕ → Type 0) (text : List ℕ) (n l : ℕ) : Type 0 where
  pub address : List ℕ
  pub whole : text ≡ address ++ (47 ∷ decimal l)
  pub first : spelt address n
  pub small : l ≤ 65535

-- why a text is no prefix of w address bits: it has not the form, or else its numbers make none
abbrev pub Refused : (List ℕ → ℕ → Type 0) → ℕ → List ℕ → Fault → Type 0
Refused spelt w text f =
    ((f ≡ alone Malformed) × ((n l : ℕ) → PrefixText spelt text n l → ⊥))
    ⊎ ((n : ℕ) × (l : ℕ) × PrefixText spelt text n l × (refusal w n l ≡ Some f.cause) × (f ≡ alone f.cause))

-- the one text by which a prefix is written
abbrev pub prefix_text : (ℕ → List ℕ) → Block → List ℕ
prefix_text written b = written b.first ++ (47 ∷ decimal b.length)
