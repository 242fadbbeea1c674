-- The sum of a function over the places that lie in one, by a walk down the tree.
use Rattle.std.specs.Prelude.{ℕ, zero, suc, ◌+◌, ◌*◌, Bool, cond, ◌&&◌}
use Rattle.space.specs.Places.{is_place, size}

-- the sum over n and the places that lie in n, as far as h levels down
unfoldable pub sum_under : ℕ → (ℕ → ℕ) → ℕ → ℕ
sum_under zero f n = f n
sum_under (suc h) f n = f n + (sum_under h f (2 * n) + sum_under h f (2 * n + 1))

-- the units that place n adds to those of a set, in a tree of depth d
abbrev pub units_at : ℕ → (ℕ → Bool) → ℕ → ℕ
units_at d set n = cond (is_place d n && set n) (size d n) 0
