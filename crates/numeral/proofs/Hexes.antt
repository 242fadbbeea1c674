-- Groups of hexadecimal digits in text: what `hex` writes, and where a group ends.
use Rattle.std.proofs.Common.{◌≡◌, ℕ, zero, suc, ◌/◌, ◌^◌, ◌<◌, ◌≤◌, true, false, leb, List, [], ◌∷◌, ◌++◌, length, get_or, take, drop, sym, refl, ⊎_elim, pow-suc, arith}
use native.Mathlib.Nat.{pow-le-pow_right}
use Rattle.std.specs.Str.Parse.{AllDigits as HexDigits, digits_value}
use Rattle.std.specs.Char.{is_ascii_hexdigit, digit_value}
use Rattle.std.proofs.lemmas.Fmt.{digits_is_IsNumeral}
use Rattle.std.proofs.lemmas.Int.Digits.{digits_value-lt}
use Rattle.std.proofs.ByRecursion.{All-get_or, All-take}
use Rattle.std.proofs.lemmas.List.{length_push, length-take}
use Rattle.std.proofs.lemmas.List.Folds.{length-prefix_len}
use Rattle.std.proofs.lemmas.Bool.{leb-true, cases_Bool, cases_lt, and_parts}
use Rattle.std.proofs.lemmas.Bool.Decides.{nat_tests}
use Rattle.numeral.specs.Groups.{Group, hex, hexes, starts}
use Rattle.numeral.proofs.Spelling.{digits_one, digits_step}
use Rattle.numeral.proofs.Runs.{Passes, passes_front, leading_append, take_leading, drop_leading}

-- digits, as a test and by their values

pub hex_true : (c : ℕ) → digit_value c < 16 → is_ascii_hexdigit c ≡ true
hex_true c h = grind (arith, nat_tests)

pub hex_from_true : (c : ℕ) → is_ascii_hexdigit c ≡ true → digit_value c < 16
hex_from_true c e = grind (arith, nat_tests)

-- digits pass the test of digits
pub passes_from_digits : (ds : List ℕ) → HexDigits 16 ds → Passes is_ascii_hexdigit ds
passes_from_digits [] h = tt
passes_from_digits (c ∷ cs) h = (hex_true c h.0, passes_from_digits cs h.1)

-- and what passes it are digits
pub digits_from_passes : (ds : List ℕ) → Passes is_ascii_hexdigit ds → HexDigits 16 ds
digits_from_passes [] h = tt
digits_from_passes (c ∷ cs) h = (hex_from_true c h.0, digits_from_passes cs h.1)

-- each byte of digits is a digit
pub hex_at : (ds : List ℕ) (k : ℕ) → HexDigits 16 ds → k < length ds → digit_value (get_or ds k 0) < 16
hex_at ds k h l = hex_from_true (get_or ds k 0) (All-get_or (λ c. is_ascii_hexdigit c ≡ true) ds k 0 l (passes_from_digits ds h))

-- the digits that begin a text are digits
pub hexes_front : (xs : List ℕ) → HexDigits 16 (take (hexes xs) xs)
hexes_front xs = digits_from_passes (take (hexes xs) xs) (passes_front is_ascii_hexdigit xs)

pub no_hex : (stop : ℕ) (rest : List ℕ) → is_ascii_hexdigit stop ≡ false → hexes (stop ∷ rest) ≡ 0
no_hex stop rest e = rw e

-- what few digits write

pub few_small : (k : ℕ) (ds : List ℕ) → HexDigits 16 ds → length ds ≤ k → digits_value 16 ds < 16 ^ k
few_small k ds h few =
    let top : 16 ^ length ds ≤ 16 ^ k = pow-le-pow_right (omega arith) few in
    omega (arith, digits_value-lt 16 ds h)

-- also as far as they are read
pub front_small : (ds : List ℕ) (i : ℕ) → HexDigits 16 ds → length ds ≤ 4 → digits_value 16 (take i ds) < 65536
front_small ds i h few =
    let d = digits_from_passes (take i ds) (All-take (λ c. is_ascii_hexdigit c ≡ true) i ds (passes_from_digits ds h)) in
    omega (arith, few_small 4 (take i ds) d (simp length-take (omega arith)))

pub group_small : (x : List ℕ) (g : ℕ) → Group x g → g < 65536
group_small x g h = omega (arith, h.number, few_small 4 x h.digits.1 h.few)

-- a number below 16 ^ (k + 1) is written in at most k + 1 digits
hex_few : (k g : ℕ) → g < 16 ^ suc k → g < 2 ^ 63 → length (hex g) ≤ suc k
hex_few zero g h small = rw (digits_one 16 (omega arith) false g (omega arith)) (omega arith)
hex_few (suc k) g h small = ⊎_elim
    (λ l. rw (digits_one 16 (omega arith) false g l) (omega arith))
    (λ l. rw (digits_step 16 (omega arith) false g l small) (simp length_push (omega (arith, hex_few k (g / 16) (omega (arith, pow-suc 16 (suc k))) (omega arith)))))
    (cases_lt g 16)

-- what is written of a group reads back
pub hex_group : (g : ℕ) → g < 65536 → Group (hex g) g
hex_group g h =
    let r = digits_is_IsNumeral 16 false (omega arith) (omega arith) g (omega arith) in
    record { digits = r.0; few = hex_few 3 g (omega arith) (omega arith); number = sym r.1 }

module _ (g : ℕ) (h : g < 65536) where
  pub hex_short : length (hex g) ≤ 4
  hex_short = (hex_group g h).few

  pub hex_some : 0 < length (hex g)
  hex_some = (hex_group g h).digits.0

  pub hex_passes : Passes is_ascii_hexdigit (hex g)
  hex_passes = passes_from_digits (hex g) (hex_group g h).digits.1

  pub hex_first : is_ascii_hexdigit (get_or (hex g) 0 0) ≡ true
  hex_first = All-get_or (λ c. is_ascii_hexdigit c ≡ true) (hex g) 0 0 hex_some hex_passes

-- a group and then what begins with no digit
module _ (x : List ℕ) (g : ℕ) (h : Group x g) (rest : List ℕ) (none : hexes rest ≡ 0) where
  pub group_hexes : hexes (x ++ rest) ≡ length x
  group_hexes = leading_append is_ascii_hexdigit x rest (passes_from_digits x h.digits.1) none

  pub group_take : take (hexes (x ++ rest)) (x ++ rest) ≡ x
  group_take = take_leading is_ascii_hexdigit x rest (passes_from_digits x h.digits.1) none

  pub group_drop : drop (hexes (x ++ rest)) (x ++ rest) ≡ rest
  group_drop = drop_leading is_ascii_hexdigit x rest (passes_from_digits x h.digits.1) none

  pub group_starts : starts (x ++ rest) ≡ true
  group_starts =
      let few = h.few in
      let some = h.digits.0 in
      rw group_hexes (grind (arith, nat_tests))

-- where a text begins with a group, its digits are one
pub group_front : (xs : List ℕ) → starts xs ≡ true → Group (take (hexes xs) xs) (digits_value 16 (take (hexes xs) xs))
group_front xs e =
    let n = length-prefix_len is_ascii_hexdigit xs in
    let b = and_parts (leb 1 (hexes xs)) (leb (hexes xs) 4) e in
    let low = leb-true 1 (hexes xs) b.0 in
    let high = leb-true (hexes xs) 4 b.1 in
    record { digits = (omega arith, hexes_front xs); few = omega arith; number = refl }

pub no_start : (xs : List ℕ) → ((g : ℕ) → Group (take (hexes xs) xs) g → ⊥) → starts xs ≡ false
no_start xs h = ⊎_elim
    (λ e. absurd (h _ (group_front xs e)))
    (λ e. e)
    (cases_Bool (starts xs))
