-- Bits of a row of words of 64 bits.
use Rattle.std.specs.Prelude.{ℕ, ◌/◌, ◌%◌, ◌^◌, Bool, ◌&&◌, List, ◌==◌, nat_le, nat_lt, slice_index}

-- binary digit j of the number w, from the least significant, is 1
abbrev pub on : ℕ → ℕ → Bool
on w j = w / 2 ^ j % 2 == 1

-- bit i of the row is 1
abbrev pub bit : List ℕ → ℕ → Bool
bit words i = on (slice_index words (i / 64)) (i % 64)

-- a ≤ k < e
abbrev pub within : ℕ → ℕ → ℕ → Bool
within a e k = nat_le a k && nat_lt k e
