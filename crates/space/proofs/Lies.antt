-- What `lies` is, step by step.
use Rattle.std.proofs.Common.{◌≡◌, ℕ, zero, suc, ◌+◌, ◌*◌, ◌/◌, ◌<◌, ◌≤◌, true, false, sym, refl, ap, ◌∙◌, subst, ◌⊎◌, inl, inr, ⊎_elim, arith}
use Rattle.std.proofs.lemmas.Bool.{cases_eq, cases_lt, eq-eqb, ne_eqb, lt-ltb, both_ways}
use Rattle.space.specs.Places.{lies_by, lies}

-- one step
pub lies_by_here : (k n : ℕ) → 0 < n → lies_by (suc k) n n ≡ true
unfolding lies_by
lies_by_here k n h = rw (lt-ltb 0 n h, eq-eqb n n refl)

pub lies_by_half : (k n m : ℕ) → 0 < n → (n ≡ m → ⊥) → lies_by (suc k) n m ≡ lies_by k (n / 2) m
unfolding lies_by
lies_by_half k n m h ne = rw (lt-ltb 0 n h, ne_eqb n m ne)

pub lies_by_zero : (k m : ℕ) → lies_by k 0 m ≡ false
unfolding lies_by
lies_by_zero zero m = refl
lies_by_zero (suc k) m = refl

-- any fuel from n up does
pub lies_fuel : (j k n m : ℕ) → n ≤ j → n ≤ k → lies_by j n m ≡ lies_by k n m
lies_fuel zero k n m a b = let z : n ≡ 0 = omega arith in rw z (lies_by_zero zero m ∙ sym (lies_by_zero k m))
lies_fuel (suc j) zero n m a b = let z : n ≡ 0 = omega arith in rw z (lies_by_zero (suc j) m ∙ sym (lies_by_zero zero m))
lies_fuel (suc j) (suc k) n m a b =
    ⊎_elim
    (λ z. rw z (lies_by_zero (suc j) m ∙ sym (lies_by_zero (suc k) m)))
    (λ nz. ⊎_elim
    (λ e. rw (← e) (lies_by_here j n (omega arith) ∙ sym (lies_by_here k n (omega arith))))
    (λ ne. lies_by_half j n m (omega arith) ne ∙ lies_fuel j k (n / 2) m (omega arith) (omega arith) ∙ sym (lies_by_half k n m (omega arith) ne))
    (cases_eq n m))
    (cases_eq n 0)

pub lies_self : (n : ℕ) → 0 < n → lies n n ≡ true
lies_self zero h = absurd (omega arith)
lies_self (suc n) h = lies_by_here n (suc n) h

-- a place that is not m lies in m where its half does
pub lies_half : (n m : ℕ) → 0 < n → (n ≡ m → ⊥) → lies n m ≡ lies (n / 2) m
lies_half zero m h ne = absurd (omega arith)
lies_half (suc n) m h ne = lies_by_half n (suc n) m h ne ∙ lies_fuel n (suc n / 2) (suc n / 2) m (omega arith) (omega arith)

-- n lies in no greater place, and nothing lies in 0
lies_by_off : (k n m : ℕ) → (m ≡ 0) ⊎ (n < m) → lies_by k n m ≡ false
unfolding lies_by
lies_by_off zero n m h = refl
lies_by_off (suc k) n m h =
    ⊎_elim
    (λ z. rw z (lies_by_zero (suc k) m))
    (λ nz. lies_by_half k n m (omega arith) (λ e. ⊎_elim (λ x. omega arith) (λ x. omega arith) h) ∙ lies_by_off k (n / 2) m (⊎_elim (λ x. inl x) (λ x. inr (omega arith)) h))
    (cases_eq n 0)

pub lies_above : (n m : ℕ) → n < m → lies n m ≡ false
lies_above n m h = lies_by_off n n m (inr h)

pub lies_none : (n : ℕ) → lies n 0 ≡ false
lies_none n = lies_by_off n n 0 (inl refl)

-- lies is an order: n lies in m only if m ≤ n
pub lies_le : (n m : ℕ) → lies n m ≡ true → m ≤ n
lies_le n m e = ⊎_elim (λ lt. absurd (both_ways (lies n m) (lies_above n m lt) e)) (λ le. le) (cases_lt n m)

pub lies_pos : (n m : ℕ) → lies n m ≡ true → 0 < m
lies_pos n m l =
    ⊎_elim
    (λ z. let f : lies n 0 ≡ true = ap (λ x. lies n x) (sym z) ∙ l in absurd (both_ways (lies n 0) (lies_none n) f))
    (λ nz. omega arith)
    (cases_eq m 0)

-- what holds of n, and of each place whose half it holds of, holds of all that lies in n
module _ (P : ℕ → Type 0) (n : ℕ) (here : P n) (step : (k : ℕ) → n < k → lies (k / 2) n ≡ true → P (k / 2) → P k) where
  lies_each_by : (j k : ℕ) → k ≤ j → lies k n ≡ true → P k
  lies_each_by zero k le l = absurd (omega (arith, lies_le k n l, lies_pos k n l))
  lies_each_by (suc j) k le l =
      let up = lies_le k n l in
      let pos = lies_pos k n l in
      ⊎_elim
      (λ e. subst P (sym e) here)
      (λ ne. let half : lies (k / 2) n ≡ true = sym (lies_half k n (omega arith) ne) ∙ l in step k (omega arith) half (lies_each_by j (k / 2) (omega arith) half))
      (cases_eq k n)

  pub lies_each : (k : ℕ) → lies k n ≡ true → P k
  lies_each k l = lies_each_by k k (omega arith) l

-- what lies in m lies in the place above m
pub lies_up : (k m : ℕ) → 1 < m → lies k m ≡ true → lies k (m / 2) ≡ true
lies_up k m h e =
    lies_each (λ x. lies x (m / 2) ≡ true) m
    (lies_half m (m / 2) (omega arith) (λ q. omega arith) ∙ lies_self (m / 2) (omega arith))
    (λ x lt half ih. lies_half x (m / 2) (omega arith) (λ q. omega arith) ∙ ih)
    k e

pub lies_left : (k n : ℕ) → 0 < n → lies k (2 * n) ≡ true → lies k n ≡ true
lies_left k n h e = let d : 2 * n / 2 ≡ n = omega arith in ap (λ x. lies k x) (sym d) ∙ lies_up k (2 * n) (omega arith) e

pub lies_right : (k n : ℕ) → 0 < n → lies k (2 * n + 1) ≡ true → lies k n ≡ true
lies_right k n h e = let d : (2 * n + 1) / 2 ≡ n = omega arith in ap (λ x. lies k x) (sym d) ∙ lies_up k (2 * n + 1) (omega arith) e
