-- What a space means: its depth, the set of places out, and its rule, a yes or no for every pair of a set
-- and a place. Depth and rule never change.
use Rattle.std.specs.Prelude.{◌≡◌, ℕ, ◌+◌, ◌^◌, ◌<◌, ◌≤◌, Bool, true, false, cond, not, ◌&&◌, ◌||◌, Option, MatchOption, ◌==◌, nat_le}
use Rattle.space.specs.Bounded.{some_below}
use Rattle.space.specs.Places.{lies, overlap, is_place, at_depth}

pub record Meaning : Type 0 where
  pub depth : ℕ
  pub out : ℕ → Bool
  pub rule : (ℕ → Bool) → ℕ → Bool

-- what holds of every space: depth at most 12, places out are places of it, and no two of them overlap
pub record Sound (m : Meaning) : Type 0 where
  pub shallow : m.depth ≤ 12
  pub inside : (n : ℕ) → m.out n ≡ true → is_place m.depth n ≡ true
  pub apart : (n k : ℕ) → m.out n ≡ true → m.out k ≡ true → overlap n k ≡ true → n ≡ k

-- some place out overlaps n
abbrev pub blocked : Meaning → ℕ → Bool
blocked m n = some_below (2 ^ (m.depth + 1)) (λ k. m.out k && overlap k n)

-- n is open: a place of the space that overlaps none out, and the rule says yes
abbrev pub is_open : Meaning → ℕ → Bool
is_open m n = is_place m.depth n && (not (blocked m n) && m.rule m.out n)

-- some place out lies in w
abbrev pub is_busy : Meaning → ℕ → Bool
is_busy m w = some_below (2 ^ (m.depth + 1)) (λ k. m.out k && lies k w)

-- k may answer a search for an open place of depth d that lies in w and is at least f
abbrev pub answers : Meaning → ℕ → ℕ → ℕ → ℕ → Bool
answers m w d f k = at_depth d k && (lies k w && (nat_le f k && is_open m k))

-- r is the smallest number of which p holds, or nothing when there is none
abbrev pub Least : Option ℕ → (ℕ → Bool) → Type 0
Least r p = MatchOption r ((k : ℕ) → p k ≡ false) (λ n. (p n ≡ true) × ((k : ℕ) → k < n → p k ≡ false))

-- k is the first of the places from n to before e that overlaps no place out
pub record Free (m : Meaning) (n e k : ℕ) : Type 0 where
  pub from : n ≤ k
  pub to : k < e
  pub free : blocked m k ≡ false
  pub before : (j : ℕ) → n ≤ j → j < k → blocked m j ≡ true

-- a set with n added, and with n removed
abbrev pub adding : (ℕ → Bool) → ℕ → ℕ → Bool
adding set n k = k == n || set k

abbrev pub removing : (ℕ → Bool) → ℕ → ℕ → Bool
removing set n k = not (k == n) && set k

-- the same space with another set out
abbrev pub having : Meaning → (ℕ → Bool) → Meaning
having m set = record { depth = m.depth; out = set; rule = m.rule }

-- after n is taken, which adds n where it is open; after n is given, which removes it
abbrev pub after_take : Meaning → ℕ → Meaning
after_take m n = having m (cond (is_open m n) (adding m.out n) m.out)

abbrev pub after_give : Meaning → ℕ → Meaning
after_give m n = having m (removing m.out n)

-- a space of depth d with nothing out, whose rule always says yes
abbrev pub fresh : ℕ → Meaning
fresh d = record { depth = d; out = λ n. false; rule = λ set n. true }

-- a shut space, which grants nothing
abbrev pub shut : Meaning
shut = record { depth = 0; out = λ n. false; rule = λ set n. false }
