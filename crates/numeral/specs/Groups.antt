-- The groups of an IPv6 address in text. `IsNumeral 16` and `digits_value 16` are the standard library's: one
-- or more hexadecimal digits of either case, and the number that they write.
use Rattle.std.specs.Prelude.{◌≡◌, ℕ, ◌≤◌, Bool, false, ◌&&◌, List, length, nat_le}
use Rattle.std.specs.List.{prefix_len}
use Rattle.std.specs.Str.Parse.{IsNumeral, digits_value}
use Rattle.std.specs.Char.{is_ascii_hexdigit}
use Rattle.std.specs.Fmt as written

-- one to four hexadecimal digits that write g
pub record Group (text : List ℕ) (g : ℕ) : Type 0 where
  pub digits : IsNumeral 16 text
  pub few : length text ≤ 4
  pub number : g ≡ digits_value 16 text

-- a group as it is written: lower case, no idle zero, what `{:x}` prints
abbrev pub hex : ℕ → List ℕ
hex g = written.digits 16 false g

-- how many hexadecimal digits begin a text
abbrev pub hexes : List ℕ → ℕ
hexes text = prefix_len is_ascii_hexdigit text

-- whether a text begins with a group: one to four digits, and no fifth
abbrev pub starts : List ℕ → Bool
starts text = nat_le 1 (hexes text) && nat_le (hexes text) 4
