-- The number of an IPv6 address.
use Rattle.std.specs.Prelude.{◌≡◌, ℕ, ◌+◌, ◌*◌, ◌<◌, List, length, slice_index}

-- the number that eight groups of sixteen bits write, the first the most significant
abbrev pub whole : List ℕ → ℕ
whole gs = ((((((slice_index gs 0 * 65536 + slice_index gs 1) * 65536 + slice_index gs 2) * 65536 + slice_index gs 3) * 65536 + slice_index gs 4) * 65536 + slice_index gs 5) * 65536 + slice_index gs 6) * 65536 + slice_index gs 7

-- eight groups of sixteen bits
pub record Eight (gs : List ℕ) : Type 0 where
  pub count : length gs ≡ 8
  pub each : (k : ℕ) → slice_index gs k < 65536
