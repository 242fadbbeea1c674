-- Places: the prefixes of a plan, numbered. A plan has a root prefix and a depth d of at most 12, and
-- d more bits than the root's fit the width. The root is place 1, and the halves of place n are 2n and 2n + 1.
use Rattle.std.specs.Prelude.{ℕ, ◌+◌, ◌-◌, ◌*◌, ◌^◌, Bool, cond, ◌&&◌, ◌==◌, nat_le, nat_lt}
use Rattle.prefix.specs.Bits.{front, middle}
use Rattle.prefix.specs.Form.{Block}

-- a root and a depth make a plan's tree
abbrev pub fits : ℕ → Block → ℕ → Bool
fits w root d = nat_le d 12 && nat_le (root.length + d) w

-- prefix b belongs to the plan: it is at most d bits longer than the root and begins with the root's bits
abbrev pub belongs : ℕ → Block → ℕ → Block → Bool
belongs w root d b =
    fits w root d
    && (nat_le root.length b.length
    && (nat_le b.length (root.length + d)
    && front w root.length b.first == front w root.length root.first))

-- its place: a one, and then its bits behind the root's; 0 where it does not belong
abbrev pub place : ℕ → Block → ℕ → Block → ℕ
place w root d b = cond (belongs w root d b) (2 ^ (b.length - root.length) + middle w root.length b.length b.first) 0

-- n is a place of the plan
abbrev pub is_place : ℕ → Block → ℕ → ℕ → Bool
is_place w root d n = fits w root d && (nat_lt 0 n && nat_lt n (2 ^ (d + 1)))

-- the block k bits longer than the root whose place is n, for 2 ^ k ≤ n < 2 ^ (k + 1)
abbrev pub block_down : ℕ → Block → ℕ → ℕ → Block
block_down w root k n = record { first = root.first + (n - 2 ^ k) * 2 ^ (w - (root.length + k)); length = root.length + k }
