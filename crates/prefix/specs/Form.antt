-- How the addresses and prefixes of a family are read as numbers.
use Rattle.std.specs.Prelude.{ℕ}

-- an address as a number; a prefix's first address and its length
pub record Form (A P : Type 0) : Type 0 where
  pub number : A → ℕ
  pub first : P → ℕ
  pub length : P → ℕ

-- a prefix of any family as two numbers: its first address and its length
pub record Block : Type 0 where
  pub first : ℕ
  pub length : ℕ

abbrev pub block : {A P : Type 0} → Form A P → P → Block
block form p = record { first = form.first p; length = form.length p }
