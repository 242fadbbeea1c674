-- The digits of a number in any base, one after another.
use Rattle.std.proofs.Common.{◌≡◌, ℕ, zero, suc, ◌+◌, ◌*◌, ◌/◌, ◌%◌, ◌^◌, ◌<◌, ◌≤◌, Bool, List, [], ◌∷◌, ◌++◌, sym, ap, ◌∙◌, ⊎_elim, append_assoc, div-lt_iff_lt-mul, mul-le-mul_left, pow-suc, arith}
use native.Mathlib.Nat.{div-eq_of_lt, lt-div-mul-add}
use Rattle.std.specs.Fmt.{digits, digit_glyph, digits_onto}
use Rattle.std.proofs.lemmas.Bool.{eq-eqb, ne_eqb, cases_lt}

module _ (base : ℕ) (two : 2 ≤ base) (upper : Bool) where
  abbrev spell : ℕ → ℕ → List ℕ → List ℕ
  spell k n acc = digits_onto k base upper n acc

  abbrev low : ℕ → ℕ
  low n = digit_glyph upper (n % base)

  last : (k n : ℕ) (acc : List ℕ) → n < base → spell (suc k) n acc ≡ low n ∷ acc
  last k n acc h = let e = eq-eqb (n / base) 0 (div-eq_of_lt h) in rw e

  next : (k n : ℕ) (acc : List ℕ) → base ≤ n → spell (suc k) n acc ≡ spell k (n / base) (low n ∷ acc)
  next k n acc h =
      let e = ne_eqb (n / base) 0 (λ z. omega (arith, lt-div-mul-add {a = n} {b = base} (omega arith), ap (λ q. q * base + base) z)) in
      rw e

  shorter : (j n : ℕ) → n < 2 ^ suc j → n / base < 2 ^ j
  shorter j n h = (div-lt_iff_lt-mul {k = base} {x = n} {y = 2 ^ j} (omega arith)).1 (omega (arith, pow-suc 2 j, mul-le-mul_left (2 ^ j) two))

  -- the digits stand in front of those written before, and any fuel that is enough writes the same
  front : (j k n : ℕ) (acc : List ℕ) → n < 2 ^ j → n < 2 ^ k → spell (suc j) n acc ≡ spell (suc k) n [] ++ acc
  front zero k n acc p q = last zero n acc (omega arith) ∙ ap (λ x. x ++ acc) (sym (last k n [] (omega arith)))
  front (suc j) zero n acc p q = last (suc j) n acc (omega arith) ∙ ap (λ x. x ++ acc) (sym (last zero n [] (omega arith)))
  front (suc j) (suc k) n acc p q = ⊎_elim
      (λ l. last (suc j) n acc l ∙ ap (λ x. x ++ acc) (sym (last (suc k) n [] l)))
      (λ l.
      let a = shorter k n q in
      next (suc j) n acc l ∙ front j k (n / base) (low n ∷ acc) (shorter j n p) a ∙ sym (append_assoc (spell (suc k) (n / base) []) (low n ∷ []) acc) ∙ ap (λ x. x ++ acc) (sym (next (suc k) n [] l ∙ front k k (n / base) (low n ∷ []) a a)))
      (cases_lt n base)

  pub digits_one : (n : ℕ) → n < base → digits base upper n ≡ digit_glyph upper (n % base) ∷ []
  unfolding digits
  digits_one n h = last 63 n [] h

  pub digits_step : (n : ℕ) → base ≤ n → n < 2 ^ 63 → digits base upper n ≡ digits base upper (n / base) ++ (digit_glyph upper (n % base) ∷ [])
  unfolding digits
  digits_step n h small = next 63 n [] h ∙ front 62 63 (n / base) (low n ∷ []) (shorter 62 n small) (omega (arith, shorter 62 n small))
