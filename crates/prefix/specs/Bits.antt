-- The bits of an address of w bits, as a number n below 2 ^ w. Bits count from 0 at the most significant.
use Rattle.std.specs.Prelude.{ℕ, ◌-◌, ◌*◌, ◌/◌, ◌%◌, ◌^◌}

-- bit i, for i below w
abbrev pub bit : ℕ → ℕ → ℕ → ℕ
bit w n i = n / 2 ^ (w - 1 - i) % 2

-- the number in the first l bits
abbrev pub front : ℕ → ℕ → ℕ → ℕ
front w l n = n / 2 ^ (w - l)

-- the number in the bits from r up to l, without bit l
abbrev pub middle : ℕ → ℕ → ℕ → ℕ → ℕ
middle w r l n = n / 2 ^ (w - l) % 2 ^ (l - r)

-- the first l bits, and zeros behind them
abbrev pub cleared : ℕ → ℕ → ℕ → ℕ
cleared w l n = n / 2 ^ (w - l) * 2 ^ (w - l)
