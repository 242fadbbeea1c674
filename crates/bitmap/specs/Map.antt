-- A set of places read off words: the words are two equal shares of bits, one bit to a unit. The first share
-- marks the units of places out, the second the first unit of each place out.
use Rattle.std.specs.Prelude.{◌≡◌, ℕ, ◌+◌, ◌-◌, ◌*◌, ◌/◌, ◌^◌, ◌<◌, ◌≤◌, max, Bool, true, cond, if◌then◌else◌, not, ◌&&◌, ◌||◌, List, map, ◌==◌, nat_le, nat_lt}
use Rattle.std.specs.List.{range_with_len}
use Rattle.space.specs.Bounded.{some_below, sum_below}
use Rattle.space.specs.Places.{is_place, size}
use Rattle.space.specs.Meaning.{Meaning}
use Rattle.bits.specs.Bit.{bit, within}

-- the words of one share in a map of depth d, which has 2 ^ d units
unfoldable pub share : ℕ → ℕ
share d = max 1 (2 ^ d / 64)

-- whether a map of depth d stands in so many words
abbrev pub room : ℕ → ℕ → Bool
room d len = (nat_le 1 d && nat_le d 12) && nat_le (2 * share d) len

-- the first unit of place n, which has `size d n` units; the units are the places of depth d, from 0 on
unfoldable pub first : ℕ → ℕ → ℕ
first d n = n * size d n - 2 ^ d

-- the space is not shut, and n is a place of it
abbrev pub has : ℕ → ℕ → Bool
has d n = nat_lt 0 d && is_place d n

-- the units of place n are those from a to before e
pub record Spans (d n a e : ℕ) : Type 0 where
  pub from : a ≡ first d n
  pub to : e ≡ first d n + size d n
  pub some : a < e
  pub inside : e ≤ 2 ^ d

-- unit u is marked; unit u is the first of a place out
abbrev pub marked : ℕ → List ℕ → ℕ → Bool
marked d words u = nat_lt u (64 * share d) && bit words u

abbrev pub starts : ℕ → List ℕ → ℕ → Bool
starts d words u = nat_lt u (64 * share d) && bit words (64 * share d + u)

-- by the marks cov and the starts st, the s units from a are one place out: a start, all marked, no further
-- start among them, and behind them no mark without a start
unfoldable pub whole : (ℕ → Bool) → (ℕ → Bool) → ℕ → ℕ → Bool
whole cov st a s = st a && (not (some_below s (λ i. not (cov (a + i)))) && (not (some_below s (λ i. nat_lt 0 i && st (a + i))) && not (cov (a + s) && not (st (a + s)))))

abbrev pub map_out : ℕ → (ℕ → Bool) → (ℕ → Bool) → ℕ → Bool
map_out d cov st n = nat_lt 0 d && (is_place d n && whole cov st (first d n) (size d n))

-- what the words mean; depth 0 is a shut space
abbrev pub map_meaning : ℕ → List ℕ → Meaning
map_meaning d words = record { depth = d; out = map_out d (marked d words) (starts d words); rule = λ set n. nat_lt 0 d }

-- unit u belongs to a place of the set; unit u is the first of a place of the set
abbrev pub covered : ℕ → (ℕ → Bool) → ℕ → Bool
covered d set u = some_below (2 ^ (d + 1)) (λ k. set k && within (first d k) (first d k + size d k) u)

abbrev pub begun : ℕ → (ℕ → Bool) → ℕ → Bool
begun d set u = some_below (2 ^ (d + 1)) (λ k. set k && first d k == u)

-- each marked unit belongs to a place out, and each start is marked
abbrev pub Kept : ℕ → (ℕ → Bool) → (ℕ → Bool) → Type 0
Kept d cov st = (u : ℕ) → cov u ≡ true → covered d (map_out d cov st) u ≡ true

abbrev pub Borne : (ℕ → Bool) → (ℕ → Bool) → Type 0
Borne cov st = (u : ℕ) → st u ≡ true → cov u ≡ true

-- both, as one test of unit u
unfoldable pub sits : ℕ → (ℕ → Bool) → (ℕ → Bool) → ℕ → Bool
sits d cov st u = cond (cov u || st u) (cov u && covered d (map_out d cov st) u) true

abbrev pub Tidy : ℕ → List ℕ → Type 0
Tidy d words = (u : ℕ) → sits d (marked d words) (starts d words) u ≡ true

-- the words vs are the words ws with the units from a to before e marked and a as a start, where out is true,
-- and with both cleared where it is false
abbrev pub Marks : ℕ → ℕ → ℕ → Bool → List ℕ → List ℕ → Type 0
Marks d a e out ws vs = (k : ℕ) → bit vs k ≡ (if within (64 * share d + a) (64 * share d + a + 1) k || within a e k then out else bit ws k)

-- what bit i of the two shares is, what word j is, and what all their words are, by the set of places out
abbrev pub pin : ℕ → (ℕ → Bool) → ℕ → Bool
pin d set i = cond (nat_lt i (64 * share d)) (covered d set i) (begun d set (i - 64 * share d))

abbrev pub word_of : ℕ → (ℕ → Bool) → ℕ → ℕ
word_of d set j = sum_below 64 (λ i. cond (pin d set (64 * j + i)) (2 ^ i) 0)

abbrev pub drawn : ℕ → (ℕ → Bool) → List ℕ
drawn d set = map (word_of d set) (range_with_len 0 (2 * share d))
