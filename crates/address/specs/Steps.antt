-- How the reader of an IPv6 address goes along a text: what its steps promise each other.
use Rattle.std.specs.Prelude.{◌≡◌, ℕ, zero, suc, ◌<◌, ◌≤◌, Bool, false, ◌&&◌, ◌⊎◌, List, [], ◌∷◌, ◌++◌, length, drop, ◌==◌, slice_index}
use Rattle.numeral.specs.Groups.{Group, hexes, starts}
use Rattle.address.specs.Colons.{Joined}

-- what stands between n groups and the next
abbrev pub between : ℕ → List ℕ
between zero = []
between (suc n) = 58 ∷ []

-- whether a text that stands behind n groups goes on with one more
abbrev pub more : ℕ → List ℕ → Bool
more zero text = starts text
more (suc n) text = slice_index text 0 == 58 && starts (drop 1 text)

-- a text that stands behind n groups goes on with the group g, and no digit is left behind it
pub record Next (n : ℕ) (text : List ℕ) (g : ℕ) (rest : List ℕ) : Type 0 where
  pub digits : List ℕ
  pub spelt : text ≡ between n ++ (digits ++ rest)
  pub group : Group digits g
  pub ends : hexes rest ≡ 0

-- a text begins with groups joined by colons, and no digit is left behind them
pub record Reads (text gs rest : List ℕ) : Type 0 where
  pub front : List ℕ
  pub spelt : text ≡ front ++ rest
  pub joined : Joined front gs
  pub ends : 0 < length gs → hexes rest ≡ 0

-- those are as many as there are, but at most `most`
pub record Took (most : ℕ) (text gs rest : List ℕ) : Type 0 where
  pub read : Reads text gs rest
  pub few : length gs ≤ most
  pub all : (length gs ≡ most) ⊎ (more (length gs) rest ≡ false)
