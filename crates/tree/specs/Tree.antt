-- The bytes of a buddy tree, one for each place, and what they mean.
use Rattle.std.specs.Prelude.{◌≡◌, ℕ, ◌+◌, ◌*◌, ◌^◌, ◌<◌, ◌≤◌, Bool, true, false, cond, not, ◌&&◌, List, map, ◌==◌, nat_le, nat_lt, slice_index}
use Rattle.std.specs.List.{range_with_len}
use Rattle.space.specs.Bounded.{some_below}
use Rattle.space.specs.Places.{lies, is_place}
use Rattle.space.specs.Meaning.{Meaning, blocked}

abbrev pub byte : List ℕ → ℕ → ℕ
byte b n = slice_index b n

-- a byte agrees with the sum of the two below it: it is 1 over clear bytes, else 0 or 2 as that sum is 0 or not;
-- at the bottom, with none below it, it is 0 or 1
unfoldable pub agrees : Bool → ℕ → ℕ → Bool
agrees true a below = cond (a == 1) (below == 0) (a == cond (below == 0) 0 2)
agrees false a below = nat_lt a 2

abbrev pub node : ℕ → List ℕ → ℕ → Bool
node d b n = agrees (nat_lt n (2 ^ d)) (byte b n) (byte b (2 * n) + byte b (2 * n + 1))

-- the byte of every place agrees with those below it
abbrev pub Tidy : ℕ → List ℕ → Type 0
Tidy d b = (n : ℕ) → is_place d n ≡ true → node d b n ≡ true

-- n is out in a tree of depth d
abbrev pub tree_out : ℕ → List ℕ → ℕ → Bool
tree_out d b n = nat_lt 0 d && (is_place d n && byte b n == 1)

-- what the bytes mean; depth 0 is a shut space
abbrev pub tree_meaning : ℕ → List ℕ → Meaning
tree_meaning d b = record { depth = d; out = tree_out d b; rule = λ set n. nat_lt 0 d }

-- a tree of depth d has room in so many bytes
abbrev pub room : ℕ → ℕ → Bool
room d len = (nat_le 1 d && nat_le d 12) && nat_le (2 ^ (d + 1)) len

-- another place out lies in n
abbrev pub others : ℕ → (ℕ → Bool) → ℕ → Bool
others d out n = some_below (2 ^ (d + 1)) (λ k. out k && (lies k n && not (k == n)))

-- the byte at n, and all bytes in use, where `out` is the set out
abbrev pub byte_of : ℕ → (ℕ → Bool) → ℕ → ℕ
byte_of d out n = cond (out n) 1 (cond (others d out n) 2 0)

abbrev pub drawn : ℕ → (ℕ → Bool) → List ℕ
drawn d out = map (byte_of d out) (range_with_len 0 (2 ^ (d + 1)))

-- all places from n to `last` overlap a place out
pub record Blocked (m : Meaning) (n last : ℕ) : Type 0 where
  pub from : n ≤ last
  pub low : last < 2 ^ (m.depth + 1)
  pub all : (j : ℕ) → n ≤ j → j ≤ last → blocked m j ≡ true
