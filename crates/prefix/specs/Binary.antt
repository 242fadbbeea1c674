-- A number and its bits, at any width: what the quotients and remainders of the definitions say bit by bit.
use Rattle.std.specs.Prelude.{◌≡◌, ℕ, ◌+◌, ◌-◌, ◌/◌, ◌%◌, ◌^◌, ◌<◌, ◌≤◌, Decides, ◌==◌}
use Rattle.std.specs.Int.{bit_at}
use Rattle.std.proofs.Common.{sym, ◌∙◌, ap, subst, arith}
use Rattle.std.proofs.lemmas.Nat.{pow_pos, shr-shr, shr_split, shr_below, mod_below}
use Rattle.std.proofs.lemmas.Nat.Bits.{bit_at-zero, bit_at_cat_low, same_from_bits_below}
use Rattle.std.proofs.lemmas.Bool.Decides.{Decides-eqb, Decides-like}
use Rattle.prefix.specs.Bits.{bit, front}

-- the last k bits of a number are those of its remainder
low_bit : (k j n : ℕ) → j < k → bit_at n j ≡ bit_at (n % 2 ^ k) j
low_bit k j n h = ap (λ v. bit_at v j) (sym (shr_split n k)) ∙ bit_at_cat_low (n / 2 ^ k) k (n % 2 ^ k) j h

-- the last k bits of two numbers, counted from the end, are the same
abbrev same_bits : ℕ → ℕ → ℕ → Type 0
same_bits k x y = (j : ℕ) → j < k → x / 2 ^ j % 2 ≡ y / 2 ^ j % 2

pub mod_from_bits : (k x y : ℕ) → same_bits k x y → x % 2 ^ k ≡ y % 2 ^ k
mod_from_bits k x y same =
    same_from_bits_below k (x % 2 ^ k) (y % 2 ^ k) (mod_below x (2 ^ k) (pow_pos k)) (mod_below y (2 ^ k) (pow_pos k))
    (λ j h. sym (low_bit k j x h) ∙ same j h ∙ low_bit k j y h)

pub bits_from_mod : (k x y : ℕ) → x % 2 ^ k ≡ y % 2 ^ k → same_bits k x y
bits_from_mod k x y e j h = low_bit k j x h ∙ ap (λ v. bit_at v j) e ∙ sym (low_bit k j y h)

module _ (w l : ℕ) (lw : l ≤ w) where
  -- bit i of the first l bits, counted from their end
  front-bit : (x i : ℕ) → i < l → bit w x i ≡ bit_at (front w l x) (l - 1 - i)
  front-bit x i il =
      let e : w - 1 - i ≡ (w - l) + (l - 1 - i) = omega arith in
      ap (bit_at x) e ∙ ap (λ v. v % 2) (sym (shr-shr x (w - l) (l - 1 - i)))

  front_small : (x : ℕ) → x < 2 ^ w → front w l x < 2 ^ l
  front_small x h = let e : w ≡ l + (w - l) = omega arith in shr_below x l (w - l) (subst (λ v. x < 2 ^ v) e h)

  -- the first l bits agree exactly when each of them does
  pub front_decides : (x y : ℕ) → x < 2 ^ w → y < 2 ^ w → Decides (front w l x == front w l y) ((i : ℕ) → i < l → bit w x i ≡ bit w y i)
  front_decides x y xs ys =
      Decides-like (front w l x == front w l y)
      (λ e i h. front-bit x i h ∙ ap (λ v. bit_at v (l - 1 - i)) e ∙ sym (front-bit y i h))
      (λ f. same_from_bits_below l (front w l x) (front w l y) (front_small x xs) (front_small y ys) (λ j h.
      let i : l - 1 - (l - 1 - j) ≡ j = omega arith in
      subst (λ v. bit_at (front w l x) v ≡ bit_at (front w l y) v) i (sym (front-bit x (l - 1 - j) (omega arith)) ∙ f (l - 1 - j) (omega arith) ∙ front-bit y (l - 1 - j) (omega arith))))
      (Decides-eqb (front w l x) (front w l y))

  -- no bit is set at l or behind it exactly when the remainder is 0
  pub host_bits : (x : ℕ) → x % 2 ^ (w - l) ≡ 0 → (i : ℕ) → l ≤ i → i < w → bit w x i ≡ 0
  host_bits x e i li iw = low_bit (w - l) (w - 1 - i) x (omega arith) ∙ ap (λ v. bit_at v (w - 1 - i)) e ∙ bit_at-zero (w - 1 - i)

  pub no_host_bits : (x : ℕ) → ((i : ℕ) → l ≤ i → i < w → bit w x i ≡ 0) → x % 2 ^ (w - l) ≡ 0
  no_host_bits x f =
      same_from_bits_below (w - l) (x % 2 ^ (w - l)) 0 (mod_below x (2 ^ (w - l)) (pow_pos (w - l))) (pow_pos (w - l)) (λ j h.
      let i : w - 1 - (w - 1 - j) ≡ j = omega arith in
      sym (low_bit (w - l) j x h) ∙ subst (λ v. bit_at x v ≡ 0) i (f (w - 1 - j) (omega arith) (omega arith)) ∙ sym (bit_at-zero j))
