-- Decimal numbers in text. `decimal n` is the standard library's: the digits that `{}` prints of n.
use Rattle.std.specs.Prelude.{◌≡◌, ℕ, ◌+◌, ◌-◌, ◌*◌, ◌<◌, ◌≤◌, List, [], ◌∷◌, ◌++◌, length, decimal, slice_index, slice_index_or}
use Rattle.std.specs.List.{prefix_len}
use Rattle.std.specs.Char.{is_ascii_digit}

-- how many decimal digits begin a text
abbrev pub decimals : List ℕ → ℕ
decimals text = prefix_len is_ascii_digit text

-- the number n, at most the limit, begins the text, and no digit follows it
pub record Begins (limit : ℕ) (text : List ℕ) (n : ℕ) (rest : List ℕ) : Type 0 where
  pub small : n ≤ limit
  pub ends : decimals rest ≡ 0
  pub spelt : text ≡ decimal n ++ rest

-- nothing but digits
abbrev pub Digits : List ℕ → Type 0
Digits ds = (k : ℕ) → k < length ds → (48 ≤ slice_index ds k) × (slice_index ds k ≤ 57)

-- at least one byte, and no idle zero in front
pub record Lean (ds : List ℕ) : Type 0 where
  pub some : 0 < length ds
  pub first : slice_index_or ds 0 0 ≡ 48 → length ds ≡ 1

-- the number that digits write behind those of n
abbrev pub value_on : ℕ → List ℕ → ℕ
value_on n [] = n
value_on n (c ∷ cs) = value_on (n * 10 + (c - 48)) cs
