-- The one text by which an IPv6 address is written.
use Rattle.std.specs.Prelude.{◌≡◌, ℕ, suc, ◌+◌, cond, List, [], ◌∷◌, ◌++◌, length, take, drop, nat_eq, nat_le, nat_lt, slice_index}
use Rattle.std.specs.List.{prefix_len}
use Rattle.numeral.specs.Groups.{hex}

-- groups in lower-case hexadecimal with no idle zeros, each behind a colon
abbrev pub behind : List ℕ → List ℕ
behind [] = []
behind (g ∷ gs) = 58 ∷ (hex g ++ behind gs)

-- the same, joined by colons
abbrev pub colons : List ℕ → List ℕ
colons [] = []
colons (g ∷ gs) = hex g ++ behind gs

-- how many zero groups begin a list of groups
abbrev pub zeros : List ℕ → ℕ
zeros gs = prefix_len (λ g. nat_eq g 0) gs

-- where the leftmost run of two or more zero groups begins; past the end where there is none
abbrev pub run : List ℕ → ℕ
run [] = 0
run (g ∷ gs) = cond (nat_le 2 (zeros (g ∷ gs))) 0 (suc (run gs))

-- two zero groups stand at k and behind it
abbrev pub TwoZeros : List ℕ → ℕ → Type 0
TwoZeros gs k = (slice_index gs k ≡ 0) × (slice_index gs (k + 1) ≡ 0)

-- that run is written as two colons
abbrev pub text6 : List ℕ → List ℕ
text6 gs =
    cond (nat_lt (run gs) (length gs))
    (colons (take (run gs) gs) ++ (58 ∷ (58 ∷ colons (drop (run gs + zeros (drop (run gs) gs)) gs))))
    (colons gs)
