-- Places: the nodes of a binary tree, numbered. The root is place 1, and the halves of place n are 2n and
-- 2n + 1, so that halving a place, dropping the remainder, gives the place that it is a half of.
use Rattle.std.specs.Prelude.{ℕ, zero, suc, ◌+◌, ◌-◌, ◌/◌, ◌^◌, Bool, false, cond, ◌&&◌, ◌||◌, ◌==◌, nat_le, nat_lt}
use Rattle.space.specs.Bounded.{sum_below}

-- one of n, n / 2, n / 4, .., as many as `count` and before the first 0, is m
unfoldable pub lies_by : ℕ → ℕ → ℕ → Bool
lies_by zero n m = false
lies_by (suc count) n m = nat_lt 0 n && (n == m || lies_by count (n / 2) m)

-- place n lies in place m: halving n zero or more times gives m (n halvings give 0 at the latest)
abbrev pub lies : ℕ → ℕ → Bool
lies n m = lies_by n n m

-- one of the two lies in the other
abbrev pub overlap : ℕ → ℕ → Bool
overlap n m = lies n m || lies m n

-- n is a place of a tree of depth d
abbrev pub is_place : ℕ → ℕ → Bool
is_place d n = nat_lt 0 n && nat_lt n (2 ^ (d + 1))

-- how often n can be halved before it is 1 or less, if `count` times suffice
unfoldable pub depth_by : ℕ → ℕ → ℕ
depth_by zero n = 0
depth_by (suc count) n = cond (nat_lt 1 n) (suc (depth_by count (n / 2))) 0

-- the depth of place n: its number of binary digits less one
abbrev pub depth_of : ℕ → ℕ
depth_of n = depth_by n n

-- n is a place of depth d: it has d + 1 binary digits
abbrev pub at_depth : ℕ → ℕ → Bool
at_depth d n = nat_le (2 ^ d) n && nat_lt n (2 ^ (d + 1))

-- the units of place n in a tree of depth d: how many places of depth d lie in it
abbrev pub size : ℕ → ℕ → ℕ
size d n = 2 ^ (d - depth_of n)

-- the units of all places of a set together
abbrev pub units : ℕ → (ℕ → Bool) → ℕ
units d set = sum_below (2 ^ (d + 1)) (λ n. cond (is_place d n && set n) (size d n) 0)
