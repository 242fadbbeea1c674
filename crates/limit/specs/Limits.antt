-- What a limit means: the space below it, whose rule says yes only where a test of the limit's own does too.
-- Depth and set are those of the space below.
use Rattle.std.specs.Prelude.{ℕ, ◌+◌, Bool, not, ◌&&◌, ◌==◌, nat_le}
use Rattle.space.specs.Places.{overlap, size, units, depth_of}
use Rattle.space.specs.Meaning.{Meaning, Sound}

abbrev pub limited : Meaning → ((ℕ → Bool) → ℕ → Bool) → Meaning
limited m test = record { depth = m.depth; out = m.out; rule = λ set n. m.rule set n && test set n }

-- k may follow n in a search: it is at least n, of n's depth, and passes the test
abbrev pub may_follow : (ℕ → Bool) → ℕ → ℕ → Bool
may_follow test n k = nat_le n k && (depth_of k == depth_of n && test k)

-- a quota of q units: those of the set and those of the place are together at most q
abbrev pub within_quota : Meaning → ℕ → Meaning
within_quota m q = limited m (λ set n. nat_le (units m.depth set + size m.depth n) q)

-- a place h held back: no place that overlaps h. Nothing overlaps 0
abbrev pub held_back : Meaning → ℕ → Meaning
held_back m h = limited m (λ set n. not (overlap n h))

-- a limit over a space keeps what holds of every space
pub limited_sound : (m : Meaning) (test : (ℕ → Bool) → ℕ → Bool) → Sound m → Sound (limited m test)
limited_sound m test s = record { shallow = s.shallow; inside = s.inside; apart = s.apart }
