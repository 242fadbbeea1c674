-- Rewriting a text in canonical form: a prefix where it has a slash, else an address.
use Rattle.std.specs.Prelude.{◌≡◌, ℕ, ◌⊎◌, List, ◌∷◌, ◌++◌, None, Ok, Err, decimal, Result}
use Rattle.std.specs.Str.Iter.{LacksByte}
use Rattle.fault.specs.Causes.{alone}
use Rattle.fault.specs.declared.Cause.TheVariants.{Malformed}
use Rattle.fault.specs.declared.Fault.{Fault}
use Rattle.prefix.specs.Prefixes.{refusal}
use Rattle.numeral.specs.Drafts.{Wrote}
use Rattle.text.specs.Texts.{PrefixText, Refused}

-- out is the canonical text of what the text spells
pub data Rewritten (spelt : List ℕ → ℕ → Type 0) (written : ℕ → List ℕ) (w : ℕ) (text out : List ℕ) : Type 0 where
  as_prefix : (n l : ℕ) → PrefixText spelt text n l → refusal w n l ≡ None → out ≡ written n ++ (47 ∷ decimal l) → Rewritten spelt written w text out
  as_address : (n : ℕ) → LacksByte 47 text → spelt text n → out ≡ written n → Rewritten spelt written w text out

-- the text spells nothing, for the cause given
pub data Unread (spelt : List ℕ → ℕ → Type 0) (w : ℕ) (text : List ℕ) (f : Fault) : Type 0 where
  no_prefix : (LacksByte 47 text → ⊥) → Refused spelt w text f → Unread spelt w text f
  no_address : LacksByte 47 text → f ≡ alone Malformed → ((n : ℕ) → spelt text n → ⊥) → Unread spelt w text f

-- what rewriting to lent memory answers, and what it leaves there
abbrev pub Rewrote : (List ℕ → ℕ → Type 0) → (ℕ → List ℕ) → ℕ → List ℕ → List ℕ → List ℕ → Result ℕ Fault → Type 0
Rewrote spelt written w text old new (Ok k) = (out : List ℕ) × Rewritten spelt written w text out × Wrote out old new (Ok k)
Rewrote spelt written w text old new (Err f) =
    ((new ≡ old) × Unread spelt w text f)
    ⊎ ((out : List ℕ) × Rewritten spelt written w text out × Wrote out old new (Err f))
