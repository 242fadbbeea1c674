-- The text of an IPv4 address (RFC 4632, section 3.1).
use Rattle.std.specs.Prelude.{◌≡◌, ℕ, ◌/◌, ◌%◌, ◌^◌, ◌<◌, List, ◌∷◌, ◌++◌, decimal}

-- the four octets, from the most significant, in decimal, joined by dots
abbrev pub quad : ℕ → List ℕ
quad n = decimal (n / 16777216) ++ (46 ∷ (decimal (n / 65536 % 256) ++ (46 ∷ (decimal (n / 256 % 256) ++ (46 ∷ decimal (n % 256))))))

-- the text writes the address n
pub record Dotted (text : List ℕ) (n : ℕ) : Type 0 where
  pub below : n < 2 ^ 32
  pub spelt : text ≡ quad n
