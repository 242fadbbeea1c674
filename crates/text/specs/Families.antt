-- Which texts spell the address of a number, and the one by which it is written, in IPv4 and IPv6.
use Rattle.std.specs.Prelude.{◌≡◌, ℕ, ◌/◌, ◌%◌, ◌^◌, List, [], ◌∷◌}
use Rattle.address.specs.Colons.{Address}
use Rattle.address.specs.Canonical.{text6}
use Rattle.prefix.specs.Groups.{whole}

-- the eight groups of an IPv6 address, by its number
abbrev pub groups : ℕ → List ℕ
groups n =
    n / 2 ^ 112
    ∷ (n / 2 ^ 96 % 65536
    ∷ (n / 2 ^ 80 % 65536
    ∷ (n / 2 ^ 64 % 65536
    ∷ (n / 2 ^ 48 % 65536
    ∷ (n / 2 ^ 32 % 65536
    ∷ (n / 2 ^ 16 % 65536
    ∷ (n % 65536 ∷ [])))))))

-- the text spells eight groups whose number is n
pub record Spelt6 (text : List ℕ) (n : ℕ) : Type 0 where
  pub eight : List ℕ
  pub reads : Address text eight
  pub number : whole eight ≡ n

abbrev pub written6 : ℕ → List ℕ
written6 n = text6 (groups n)
