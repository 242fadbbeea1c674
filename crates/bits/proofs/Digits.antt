-- Digits of numbers under `|`, `&`, `!`, shifts and masks.
use Rattle.std.proofs.Common.{◌≡◌, ℕ, zero, suc, ◌+◌, ◌-◌, ◌*◌, ◌/◌, ◌%◌, ◌^◌, ◌<◌, ◌≤◌, true, false, not, ◌&&◌, ◌||◌, eqb, ltb, leb, ◌⊎◌, sym, refl, ap, ◌∙◌, ap₂, inl, inr, ⊎_elim, mul_assoc, mul-add, arith, pow_pos}
use native.Mathlib.Nat.{two-pow-succ, div-eq_of_lt}
use lib.Bits.{bit_and, bit_or}
use lib.Count.{count_trailing_zeros}
use lib.Pow.{ones_lt}
use Rattle.std.proofs.lemmas.Bool.{cases_eq, cases_lt, lt-ltb, le-ltb, le-leb, lt-leb}
use Rattle.std.proofs.lemmas.Nat.{or_shr, and_shr, or_mod, and_mod, shl-shr, shr-shr, pow-add, pow_below}
use Rattle.std.proofs.lemmas.Bool.Decides.{nat_tests}
use Rattle.std.proofs.lemmas.Nat.Bits.{bit_at_ones, bit_at_ones_above, bit_at_mask_inside, bit_at_mask_below, ones_shl, ones_shr}
use Rattle.bits.specs.Bit.{on}

-- tests that say the same
pub ltb_same : (a b c d : ℕ) → (a < b → c < d) → (c < d → a < b) → ltb a b ≡ ltb c d
ltb_same a b c d f g =
    ⊎_elim
    (λ lt. lt-ltb a b lt ∙ sym (lt-ltb c d (f lt)))
    (λ ge. le-ltb a b ge ∙ sym (le-ltb c d (⊎_elim (λ x. let y = g x in absurd (omega arith)) (λ x. x) (cases_lt c d))))
    (cases_lt a b)

pub leb_same : (a b c d : ℕ) → (a ≤ b → c ≤ d) → (c ≤ d → a ≤ b) → leb a b ≡ leb c d
leb_same a b c d f g =
    ⊎_elim
    (λ lt. lt-leb a b lt ∙ sym (lt-leb c d (⊎_elim (λ x. x) (λ x. let y = g x in absurd (omega arith)) (cases_lt d c))))
    (λ ge. le-leb a b ge ∙ sym (le-leb c d (f ge)))
    (cases_lt b a)

-- or and and, digit by digit
digit : (x : ℕ) → x < 2 → (x ≡ 0) ⊎ (x ≡ 1)
digit x lt = ⊎_elim (λ z. inl z) (λ nz. inr (omega arith)) (cases_eq x 0)

or_digit : (x y : ℕ) → x < 2 → y < 2 → eqb (bit_or x y) 1 ≡ (eqb x 1 || eqb y 1)
or_digit x y a b = let p = digit x a in let q = digit y b in
    ⊎_elim
    (λ z. ⊎_elim (λ u. ap₂ (λ x y. eqb (bit_or x y) 1) z u ∙ sym (ap₂ (λ x y. eqb x 1 || eqb y 1) z u)) (λ u. ap₂ (λ x y. eqb (bit_or x y) 1) z u ∙ sym (ap₂ (λ x y. eqb x 1 || eqb y 1) z u)) q)
    (λ z. ⊎_elim (λ u. ap₂ (λ x y. eqb (bit_or x y) 1) z u ∙ sym (ap₂ (λ x y. eqb x 1 || eqb y 1) z u)) (λ u. ap₂ (λ x y. eqb (bit_or x y) 1) z u ∙ sym (ap₂ (λ x y. eqb x 1 || eqb y 1) z u)) q)
    p

and_digit : (x y : ℕ) → x < 2 → y < 2 → eqb (bit_and x y) 1 ≡ (eqb x 1 && eqb y 1)
and_digit x y a b = let p = digit x a in let q = digit y b in
    ⊎_elim
    (λ z. ⊎_elim (λ u. ap₂ (λ x y. eqb (bit_and x y) 1) z u ∙ sym (ap₂ (λ x y. eqb x 1 && eqb y 1) z u)) (λ u. ap₂ (λ x y. eqb (bit_and x y) 1) z u ∙ sym (ap₂ (λ x y. eqb x 1 && eqb y 1) z u)) q)
    (λ z. ⊎_elim (λ u. ap₂ (λ x y. eqb (bit_and x y) 1) z u ∙ sym (ap₂ (λ x y. eqb x 1 && eqb y 1) z u)) (λ u. ap₂ (λ x y. eqb (bit_and x y) 1) z u ∙ sym (ap₂ (λ x y. eqb x 1 && eqb y 1) z u)) q)
    p

pub on_or : (a b j : ℕ) → on (bit_or a b) j ≡ (on a j || on b j)
on_or a b j =
    ap (λ x. eqb x 1) (ap (λ x. x % 2) (or_shr a b j) ∙ or_mod (a / 2 ^ j) (b / 2 ^ j) 1)
    ∙ or_digit (a / 2 ^ j % 2) (b / 2 ^ j % 2) (omega arith) (omega arith)

pub on_and : (a b j : ℕ) → on (bit_and a b) j ≡ (on a j && on b j)
on_and a b j =
    ap (λ x. eqb x 1) (ap (λ x. x % 2) (and_shr a b j) ∙ and_mod (a / 2 ^ j) (b / 2 ^ j) 1)
    ∙ and_digit (a / 2 ^ j % 2) (b / 2 ^ j % 2) (omega arith) (omega arith)

-- the first digit, and the digits of the half
pub on_half : (a j : ℕ) → on a (suc j) ≡ on (a / 2) j
on_half a j = let e : suc j ≡ 1 + j = omega arith in rw e (ap (λ x. eqb (x % 2) 1) (sym (shr-shr a 1 j)))

pub on_low : (a : ℕ) → on a 0 ≡ eqb (a % 2) 1
on_low a = let e : a / 2 ^ 0 ≡ a = omega arith in ap (λ x. eqb (x % 2) 1) e

pub on_shr : (a s j : ℕ) → on (a / 2 ^ s) j ≡ on a (s + j)
on_shr a s j = ap (λ x. eqb (x % 2) 1) (shr-shr a s j)

pub on_zero : (j : ℕ) → on 0 j ≡ false
on_zero j = ap (λ x. eqb (x % 2) 1) (div-eq_of_lt (pow_pos j))

-- a number with every digit flipped
flipped : (x a : ℕ) → x % 2 + a % 2 ≡ 1 → eqb (x % 2) 1 ≡ not (eqb (a % 2) 1)
flipped x a s =
    ⊎_elim
    (λ z. let e : x % 2 ≡ 1 = omega arith in ap (λ t. eqb t 1) e ∙ sym (ap (λ t. not (eqb t 1)) z))
    (λ nz. let o : a % 2 ≡ 1 = omega arith in let e : x % 2 ≡ 0 = omega arith in ap (λ t. eqb t 1) e ∙ sym (ap (λ t. not (eqb t 1)) o))
    (cases_eq (a % 2) 0)

pub on-not : (w a j : ℕ) → a < 2 ^ w → j < w → on (2 ^ w - 1 - a) j ≡ not (on a j)
on-not zero a j lt le = absurd (omega arith)
on-not (suc w) a zero lt le =
    let p = two-pow-succ w in
    let q = pow_pos w in
    on_low (2 ^ suc w - 1 - a) ∙ flipped (2 ^ suc w - 1 - a) a (omega arith) ∙ sym (ap not (on_low a))
on-not (suc w) a (suc j) lt le =
    let p = two-pow-succ w in
    let q = pow_pos w in
    let e : (2 ^ suc w - 1 - a) / 2 ≡ 2 ^ w - 1 - a / 2 = omega arith in
    on_half (2 ^ suc w - 1 - a) j ∙ ap (λ x. on x j) e ∙ on-not w (a / 2) j (omega arith) (omega arith) ∙ sym (ap not (on_half a j))

-- c digits from digit s up
on_ones : (c j : ℕ) → on (2 ^ c - 1) j ≡ ltb j c
on_ones c j =
    ⊎_elim
    (λ lt. let z : 2 ^ c - 1 - 0 ≡ 2 ^ c - 1 = omega arith in ap (λ x. on x j) (sym z) ∙ on-not c 0 j (pow_pos c) lt ∙ ap not (on_zero j) ∙ sym (lt-ltb j c lt))
    (λ ge. ap (λ x. eqb (x % 2) 1) (div-eq_of_lt (big ge)) ∙ sym (le-ltb j c ge))
    (cases_lt j c)
  where
    big : c ≤ j → 2 ^ c - 1 < 2 ^ j
    big ge = ⊎_elim (λ e. rw (← e) (ones_lt c)) (λ ne. let p = pow_below c j (omega arith) in omega arith) (cases_eq c j)

pub on_mask : (s c j : ℕ) → on ((2 ^ c - 1) * 2 ^ s) j ≡ (leb s j && ltb j (s + c))
on_mask s c j =
    ⊎_elim
    (λ lt.
    let d = s - (j + 1) in
    let e : s ≡ suc d + j = omega arith in
    let f : (2 ^ c - 1) * 2 ^ s / 2 ^ j ≡ (2 ^ c - 1) * 2 ^ suc d =
    ap (λ x. (2 ^ c - 1) * x / 2 ^ j) (ap (λ x. 2 ^ x) e ∙ pow-add 2 (suc d) j) ∙ ap (λ x. x / 2 ^ j) (sym (mul_assoc (2 ^ c - 1) (2 ^ suc d) (2 ^ j))) ∙ shl-shr ((2 ^ c - 1) * 2 ^ suc d) j in
    let g : (2 ^ c - 1) * 2 ^ suc d ≡ 2 * ((2 ^ c - 1) * 2 ^ d) = ap (λ x. (2 ^ c - 1) * x) (two-pow-succ d) ∙ mul-add (2 ^ c - 1) (2 ^ d) (2 ^ d) ∙ omega arith in
    ap (λ x. eqb (x % 2) 1) (f ∙ g) ∙ ap (λ x. eqb x 1) (let z : 2 * ((2 ^ c - 1) * 2 ^ d) % 2 ≡ 0 = omega arith in z) ∙ sym (ap (λ t. t && ltb j (s + c)) (lt-leb s j lt)))
    (λ ge.
    let e : s + (j - s) ≡ j = omega arith in
    ap (on ((2 ^ c - 1) * 2 ^ s)) (sym e)
    ∙ sym (on_shr ((2 ^ c - 1) * 2 ^ s) s (j - s))
    ∙ ap (λ x. on x (j - s)) (shl-shr (2 ^ c - 1) s)
    ∙ on_ones c (j - s)
    ∙ ltb_same (j - s) c j (s + c) (λ h. omega arith) (λ h. omega arith)
    ∙ sym (ap (λ t. t && ltb j (s + c)) (le-leb s j ge)))
    (cases_lt j s)

-- trailing zeros
pub trailing_set : (w a : ℕ) → count_trailing_zeros w a < w → on a (count_trailing_zeros w a) ≡ true
unfolding count_trailing_zeros
trailing_set zero a lt = absurd (omega arith)
trailing_set (suc w) a lt =
    ⊎_elim
    (λ z. let l : suc (count_trailing_zeros w (a / 2)) < suc w = rw z at lt in rw z (on_half a (count_trailing_zeros w (a / 2)) ∙ trailing_set w (a / 2) (omega arith)))
    (λ nz. let o : a % 2 ≡ 1 = omega arith in rw o (on_low a ∙ rw o refl))
    (cases_eq (a % 2) 0)

pub trailing_clear : (w a j : ℕ) → j < count_trailing_zeros w a → on a j ≡ false
unfolding count_trailing_zeros
trailing_clear zero a j lt = absurd (omega arith)
trailing_clear (suc w) a j lt =
    ⊎_elim
    (λ z.
    let l : j < suc (count_trailing_zeros w (a / 2)) = rw z at lt in
    ⊎_elim
    (λ e. ap (on a) e ∙ on_low a ∙ rw z refl)
    (λ ne. let e : j ≡ suc (j - 1) = omega arith in ap (on a) e ∙ on_half a (j - 1) ∙ trailing_clear w (a / 2) (j - 1) (omega arith))
    (cases_eq j 0))
    (λ nz. let o : a % 2 ≡ 1 = omega arith in let l : j < 0 = rw o at lt in absurd (omega arith))
    (cases_eq (a % 2) 0)

-- the digits from a on, and those before e
pub on_from : (a j : ℕ) → a < 64 → j < 64 → on ((2 ^ 64 - 1) * 2 ^ a % 2 ^ 64) j ≡ leb a j
on_from a j la lj = grind (arith, nat_tests, ones_shl 64 a (omega arith), bit_at_mask_inside a 64 j, bit_at_mask_below a 64 j, cases_lt j a)

pub on_before : (e j : ℕ) → e ≤ 64 → on ((2 ^ 64 - 1) / 2 ^ (64 - e)) j ≡ ltb j e
on_before e j le = let q : 64 - (64 - e) ≡ e = omega arith in grind (arith, nat_tests, ones_shr 64 (64 - e) (omega arith), bit_at_ones e j, bit_at_ones_above e j, cases_lt j e)
