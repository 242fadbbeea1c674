-- Decimal numbers in text: what digits write, and that a text has one number and one rest.
use Rattle.std.proofs.Common.{◌≡◌, ℕ, zero, suc, ◌+◌, ◌-◌, ◌*◌, ◌/◌, ◌%◌, ◌^◌, ◌<◌, ◌≤◌, true, false, List, [], ◌∷◌, ◌++◌, length, get_or, take, drop, decimal, sym, ap, ◌∙◌, arith, rules}
use Rattle.std.specs.Char.{is_ascii_digit}
use Rattle.std.proofs.lemmas.Fmt as shelf
use Rattle.std.proofs.lemmas.Fmt.{decimal_digit, decimal_step, digits_decimal, decimal_nonempty, first_decimal, length-decimal-le, decimal_injective}
use Rattle.std.proofs.ByRecursion.{All-get_or, All-from_get_or}
use Rattle.std.proofs.lemmas.List.{length-append, take-append-drop}
use Rattle.std.proofs.lemmas.Str.Parse.{IsNumeralModel, numerals_by_fold, tells_by_index}
use Rattle.std.proofs.lemmas.Bool.Decides.{nat_tests}
use Rattle.numeral.specs.Numbers.{decimals, Begins, Digits, Lean, value_on}
use Rattle.numeral.proofs.Runs.{Passes, passes_front, leading_rest, leading_append, take_leading, drop_leading}

pub value_on_ge : (n : ℕ) (cs : List ℕ) → n ≤ value_on n cs
value_on_ge n [] = omega arith
value_on_ge n (c ∷ cs) = omega (arith, value_on_ge (n * 10 + (c - 48)) cs)

pub digit_true : (c : ℕ) → 48 ≤ c → c ≤ 57 → is_ascii_digit c ≡ true
digit_true c l h = grind (arith, nat_tests)

pub digit_from_true : (c : ℕ) → is_ascii_digit c ≡ true → (48 ≤ c) × (c ≤ 57)
digit_from_true c e = grind (arith, nat_tests)

pub no_digit : (stop : ℕ) (rest : List ℕ) → stop < 48 → decimals (stop ∷ rest) ≡ 0
no_digit stop rest h = let e : is_ascii_digit stop ≡ false = grind (arith, nat_tests) in rw e

-- the digits that begin a text are digits
pub digits_front : (xs : List ℕ) → Digits (take (decimals xs) xs)
digits_front xs k h = digit_from_true _ (All-get_or (λ c. is_ascii_digit c ≡ true) (take (decimals xs) xs) k 0 h (passes_front is_ascii_digit xs))

own : IsNumeralModel Digits (value_on 0)
own = numerals_by_fold Digits tells_by_index value_on (search rules)

-- the digits of a number

pub decimal2 : (n : ℕ) → 10 ≤ n → n < 100 → decimal n ≡ (48 + n / 10) ∷ ((48 + n % 10) ∷ [])
decimal2 n l h = decimal_step n l (omega arith) ∙ ap (λ d. d ++ ((48 + n % 10) ∷ [])) (decimal_digit (n / 10) (omega arith))

pub decimal3 : (n : ℕ) → 100 ≤ n → n < 1000 → decimal n ≡ (48 + n / 100) ∷ ((48 + n / 10 % 10) ∷ ((48 + n % 10) ∷ []))
decimal3 n l h =
    let e : n / 10 / 10 ≡ n / 100 = omega arith in
    decimal_step n (omega arith) (omega arith) ∙ ap (λ d. d ++ ((48 + n % 10) ∷ [])) (decimal2 (n / 10) (omega arith) (omega arith) ∙ ap (λ k. (48 + k) ∷ ((48 + n / 10 % 10) ∷ [])) e)

pub decimal_short : (n : ℕ) → n < 1000 → length (decimal n) ≤ 3
decimal_short n h = length-decimal-le 3 n (omega arith) (omega arith) (omega arith)

pub decimal_passes : (n : ℕ) → n < 2 ^ 64 → Passes is_ascii_digit (decimal n)
decimal_passes n h = All-from_get_or (λ c. is_ascii_digit c ≡ true) (decimal n) 0 (λ k l. let d = digits_decimal own n h k l in digit_true _ d.0 d.1)

lean_first : (n : ℕ) → n < 2 ^ 64 → get_or (decimal n) 0 0 ≡ 48 → length (decimal n) ≡ 1
lean_first zero h e = ap length (decimal_digit 0 (omega arith))
lean_first (suc n) h e = absurd (omega (arith, first_decimal (suc n) (omega arith) h))

pub decimal_lean : (n : ℕ) → n < 2 ^ 64 → Lean (decimal n)
decimal_lean n h = record { some = decimal_nonempty n h; first = lean_first n h }

pub value_decimal : (n : ℕ) → n < 2 ^ 64 → value_on 0 (decimal n) ≡ n
value_decimal n h = shelf.digits_value-decimal own n h

-- and back: digits with no idle zero are those of the number that they write
pub decimal_value : (ds : List ℕ) → Digits ds → Lean ds → value_on 0 ds < 2 ^ 64 → decimal (value_on 0 ds) ≡ ds
decimal_value ds d lean h = shelf.decimal-digits_value own ds d lean.some lean.first h

-- a number and then what begins with no digit
module _ (n : ℕ) (small : n < 2 ^ 64) (rest : List ℕ) (none : decimals rest ≡ 0) where
  pub decimal_digits : decimals (decimal n ++ rest) ≡ length (decimal n)
  decimal_digits = leading_append is_ascii_digit (decimal n) rest (decimal_passes n small) none

  pub decimal-take : take (decimals (decimal n ++ rest)) (decimal n ++ rest) ≡ decimal n
  decimal-take = take_leading is_ascii_digit (decimal n) rest (decimal_passes n small) none

  pub decimal-drop : drop (decimals (decimal n ++ rest)) (decimal n ++ rest) ≡ rest
  decimal-drop = drop_leading is_ascii_digit (decimal n) rest (decimal_passes n small) none

-- a text has one number and one rest
pub same_part : (v n : ℕ) (xs ys : List ℕ) → v < 2 ^ 64 → n < 2 ^ 64 → decimals xs ≡ 0 → decimals ys ≡ 0 → decimal v ++ xs ≡ decimal n ++ ys → (v ≡ n) × (xs ≡ ys)
same_part v n xs ys vs ns xd yd e = (
  decimal_injective v n vs ns (sym (decimal-take v vs xs xd) ∙ ap (λ l. take (decimals l) l) e ∙ decimal-take n ns ys yd),
  sym (decimal-drop v vs xs xd) ∙ ap (λ l. drop (decimals l) l) e ∙ decimal-drop n ns ys yd,
)

-- no number begins where nothing stands
pub begins_nothing : (limit n : ℕ) (rest : List ℕ) → limit < 2 ^ 64 → Begins limit [] n rest → ⊥
begins_nothing limit n rest h b = omega (arith, decimal_nonempty n (omega (arith, b.small)), simp length-append at (ap length b.spelt))

-- the number and the rest that begin a text are the only ones
pub begins_one : {limit v n : ℕ} {text xs ys : List ℕ} → limit < 2 ^ 64 → Begins limit text v xs → Begins limit text n ys → (v ≡ n) × (xs ≡ ys)
begins_one {limit} {v} {n} {text} {xs} {ys} small b c = same_part v n xs ys (omega (arith, b.small)) (omega (arith, c.small)) b.ends c.ends (sym b.spelt ∙ c.spelt)

-- a text that a number begins, begins with that number's digits and no more
pub begins_front : (limit : ℕ) (text rest : List ℕ) (n : ℕ) → n ≤ limit → take (decimals text) text ≡ decimal n → rest ≡ drop (decimals text) text → Begins limit text n rest
begins_front limit text rest n small e f = record { small = small; ends = ap decimals f ∙ leading_rest is_ascii_digit text; spelt = let g = take-append-drop (decimals text) text in cc }

pub begins_digits : {limit n : ℕ} {text rest : List ℕ} → limit < 2 ^ 64 → Begins limit text n rest → take (decimals text) text ≡ decimal n
begins_digits {limit} {n} {text} {rest} small b = ap (λ l. take (decimals l) l) b.spelt ∙ decimal-take n (omega (arith, b.small)) rest b.ends
