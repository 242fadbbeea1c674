-- The texts of an IPv6 address (RFC 4291, section 2.2, forms 1 and 2).
use Rattle.std.specs.Prelude.{◌≡◌, ℕ, ◌+◌, ◌-◌, ◌<◌, ◌⊎◌, List, [], ◌∷◌, ◌++◌, length, replicate}
use Rattle.numeral.specs.Groups.{Group}

-- groups, each behind a colon
abbrev pub Behind : List ℕ → List ℕ → Type 0
Behind text [] = text ≡ []
Behind text (g ∷ gs) = (x : List ℕ) × (y : List ℕ) × (text ≡ 58 ∷ (x ++ y)) × Group x g × Behind y gs

-- groups joined by colons; no group is the empty text
abbrev pub Joined : List ℕ → List ℕ → Type 0
Joined text [] = text ≡ []
Joined text (g ∷ gs) = (x : List ℕ) × (y : List ℕ) × (text ≡ x ++ y) × Group x g × Behind y gs

-- form 1: eight groups joined by colons
pub record Full (text gs : List ℕ) : Type 0 where
  pub eight : length gs ≡ 8
  pub spelt : Joined text gs

-- form 2: two colons stand once, for one or more groups of zeros
pub record Shortened (text gs : List ℕ) : Type 0 where
  pub left : List ℕ
  pub right : List ℕ
  pub before : List ℕ
  pub after : List ℕ
  pub spelt : text ≡ left ++ (58 ∷ (58 ∷ right))
  pub first : Joined left before
  pub last : Joined right after
  pub room : length before + length after < 8
  pub groups : gs ≡ before ++ (replicate (8 - (length before + length after)) 0 ++ after)

-- the text writes the address of these eight groups
abbrev pub Address : List ℕ → List ℕ → Type 0
Address text gs = Full text gs ⊎ Shortened text gs
