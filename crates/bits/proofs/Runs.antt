-- Runs of bits: one word is set or cleared from one bit to another, or searched, and what it holds of a run.
use Rattle.std.proofs.Common.{◌≡◌, ℕ, ◌+◌, ◌-◌, ◌*◌, ◌/◌, ◌%◌, ◌^◌, ◌<◌, ◌≤◌, min, max, Bool, true, false, cond, eqb, not, ◌&&◌, ◌||◌, ltb, leb, ◌≢◌, ◌⊎◌, List, length, get_or, set, sym, refl, ap, ◌∙◌, ap₂, inl, inr, ⊎_elim, arith, get_or-set_other, get_or-set_same}
use lib.Bits.{bit_and, bit_or}
use Rattle.std.specs.Int.{bit_at, w64, trailing_zeros}
use Rattle.std.proofs.lemmas.Bool.Decides.{nat_tests}
use Rattle.std.proofs.lemmas.Nat.{and_le_r}
use Rattle.std.proofs.lemmas.Nat.Bits.{bit_at-trailing_zeros}
use Rattle.std.proofs.lemmas.Bool.{cases_eq, cases_lt, and_parts, and_from, and_left, and_right, lt-ltb, le-ltb, le-leb, lt-leb, ltb-true, leb-true}
use Rattle.bits.specs.Bit.{on, bit, within}
use Rattle.bits.proofs.Digits.{ltb_same, leb_same, on_or, on_and, on-not, on_mask, on_zero, on_shr, trailing_clear, trailing_set}
use Rattle.std.proofs.lemmas.List.{get_or_past}
use lib.Count.{count_trailing_zeros}

pub in_run : (a e k : ℕ) → a ≤ k → k < e → within a e k ≡ true
in_run a e k x y = and_from _ _ (le-leb a k x) (lt-ltb k e y)

pub run_parts : (a e k : ℕ) → within a e k ≡ true → (a ≤ k) × (k < e)
run_parts a e k x = let t = and_parts (leb a k) _ x in (leb-true a k t.0, ltb-true k e t.1)

pub not_run : (a e k : ℕ) → (k < a) ⊎ (e ≤ k) → within a e k ≡ false
not_run a e k x = ⊎_elim (λ l. and_left (leb a k) _ (lt-leb a k l)) (λ g. and_right (leb a k) _ (le-ltb k e g)) x

-- two runs end to end
pub run_join : (a i e k : ℕ) → a ≤ i → i ≤ e → (b : Bool) → (within i e k || (within a i k || b)) ≡ (within a e k || b)
run_join a i e k ai ie b =
    ⊎_elim
    (λ lt. ap₂ (λ x y. x || (y || b)) (not_run i e k (inl lt)) (ap₂ (λ x y. x && y) {x = leb a k} refl (lt-ltb k i lt)) ∙ sym (ap (λ x. (leb a k && x) || b) (lt-ltb k e (omega arith))))
    (λ ge. ap₂ (λ x y. (x && ltb k e) || (y || b)) (le-leb i k ge) (not_run a i k (inr ge)) ∙ sym (ap (λ x. (x && ltb k e) || b) (le-leb a k (omega arith))))
    (cases_lt k i)

and_is : (x : Bool) → {y : Bool} → y ≡ true → (x && y) ≡ x
and_is true e = e
and_is false e = refl

-- a run that ends at m or before
pub run_below : (a e m k : ℕ) → e ≤ m → (within a e k && ltb k m) ≡ within a e k
run_below a e m k em =
    ⊎_elim
    (λ lt. and_is (within a e k) (lt-ltb k m (omega arith)))
    (λ ge. let f = not_run a e k (inr ge) in and_left (within a e k) (ltb k m) f ∙ sym f)
    (cases_lt k e)

-- runs end to end below m
pub run_join_below : (a i e m k : ℕ) → a ≤ i → i ≤ e → e ≤ m → (b : Bool) → (within i e k || ((within a i k && ltb k m) || b)) ≡ ((within a e k && ltb k m) || b)
run_join_below a i e m k ai ie em b =
    ⊎_elim
    (λ lt.
    let t = lt-ltb k m lt in
    ap (λ x. within i e k || (x || b)) (and_is (within a i k) t) ∙ run_join a i e k ai ie b ∙ sym (ap (λ x. x || b) (and_is (within a e k) t)))
    (λ ge.
    let f = le-ltb k m ge in
    ap₂ (λ x y. x || (y || b)) (not_run i e k (inr (omega arith))) (and_right (within a i k) (ltb k m) f) ∙ sym (ap (λ x. x || b) (and_right (within a e k) (ltb k m) f)))
    (cases_lt k m)

pub cut_join : (a i e k : ℕ) → a ≤ i → i ≤ e → (b : Bool) → (not (within i e k) && (not (within a i k) && b)) ≡ (not (within a e k) && b)
cut_join a i e k ai ie b =
    ⊎_elim
    (λ lt. ap₂ (λ x y. not x && (not y && b)) (not_run i e k (inl lt)) (ap₂ (λ x y. x && y) {x = leb a k} refl (lt-ltb k i lt)) ∙ sym (ap (λ x. not (leb a k && x) && b) (lt-ltb k e (omega arith))))
    (λ ge. ap₂ (λ x y. not (x && ltb k e) && (not y && b)) (le-leb i k ge) (not_run a i k (inr ge)) ∙ sym (ap (λ x. not (x && ltb k e) && b) (le-leb a k (omega arith))))
    (cases_lt k i)

module _ (ws : List ℕ) (j : ℕ) (v : ℕ) where
  pub bit_other : (k : ℕ) → (k / 64 ≡ j → ⊥) → bit (set ws j v) k ≡ bit ws k
  bit_other k ne = let h : k / 64 ≢ j = ne in ap (λ x. on x (k % 64)) (let z : get_or (set ws j v) (k / 64) 0 ≡ get_or ws (k / 64) 0 = rw get_or-set_other in z)

  pub bit_same : j < length ws → (k : ℕ) → k / 64 ≡ j → bit (set ws j v) k ≡ on v (k % 64)
  bit_same lt k e = ap (λ x. on x (k % 64)) (ap (λ x. get_or (set ws j v) x 0) e ∙ (let z : get_or (set ws j v) j 0 ≡ v = rw get_or-set_same in z))

module _ (ws : List ℕ) (i c : ℕ) (lt : i / 64 < length ws) (le : i % 64 + c ≤ 64) where
  -- the run i..i+c, in the word of i and elsewhere
  run_here : (k : ℕ) → k / 64 ≡ i / 64 → (leb (i % 64) (k % 64) && ltb (k % 64) (i % 64 + c)) ≡ within i (i + c) k
  run_here k e = ap₂ (λ x y. x && y) (leb_same (i % 64) (k % 64) i k (λ h. omega arith) (λ h. omega arith)) (ltb_same (k % 64) (i % 64 + c) k (i + c) (λ h. omega arith) (λ h. omega arith))

  run_off : (k : ℕ) → (k / 64 ≡ i / 64 → ⊥) → within i (i + c) k ≡ false
  run_off k ne = not_run i (i + c) k (⊎_elim (λ l. inl l) (λ g. inr (⊎_elim (λ l. absurd (ne (omega arith))) (λ x. x) (cases_lt k (i + c)))) (cases_lt k i))

  pub word_set : (k : ℕ) → bit (set ws (i / 64) (bit_or (get_or ws (i / 64) 0) ((2 ^ c - 1) * 2 ^ (i % 64)))) k ≡ (within i (i + c) k || bit ws k)
  word_set k =
      let w = get_or ws (i / 64) 0 in
      let m = (2 ^ c - 1) * 2 ^ (i % 64) in
      ⊎_elim
      (λ same.
      bit_same ws (i / 64) (bit_or w m) lt k same
      ∙ on_or w m (k % 64)
      ∙ ap₂ (λ x y. x || y) (ap (λ x. on (get_or ws x 0) (k % 64)) (sym same)) (on_mask (i % 64) c (k % 64) ∙ run_here k same)
      ∙ swap (bit ws k) (within i (i + c) k))
      (λ off. bit_other ws (i / 64) (bit_or w m) k off ∙ sym (ap (λ t. t || bit ws k) (run_off k off)))
      (cases_eq (k / 64) (i / 64))
    where
      swap : (x y : Bool) → (x || y) ≡ (y || x)
      swap true true = refl
      swap true false = refl
      swap false true = refl
      swap false false = refl

  pub word_clear : (2 ^ c - 1) * 2 ^ (i % 64) < 2 ^ 64 → (k : ℕ) → bit (set ws (i / 64) (bit_and (get_or ws (i / 64) 0) (2 ^ 64 - 1 - (2 ^ c - 1) * 2 ^ (i % 64)))) k ≡ (not (within i (i + c) k) && bit ws k)
  word_clear fit k =
      let w = get_or ws (i / 64) 0 in
      let m = (2 ^ c - 1) * 2 ^ (i % 64) in
      ⊎_elim
      (λ same.
      bit_same ws (i / 64) (bit_and w (2 ^ 64 - 1 - m)) lt k same
      ∙ on_and w (2 ^ 64 - 1 - m) (k % 64)
      ∙ ap₂ (λ x y. x && y) (ap (λ x. on (get_or ws x 0) (k % 64)) (sym same)) (on-not 64 m (k % 64) fit (omega arith) ∙ ap not (on_mask (i % 64) c (k % 64) ∙ run_here k same))
      ∙ swap (bit ws k) (not (within i (i + c) k)))
      (λ off. bit_other ws (i / 64) (bit_and w (2 ^ 64 - 1 - m)) k off ∙ sym (ap (λ t. not t && bit ws k) (run_off k off)))
      (cases_eq (k / 64) (i / 64))
    where
      swap : (x y : Bool) → (x && y) ≡ (y && x)
      swap true true = refl
      swap true false = refl
      swap false true = refl
      swap false false = refl

-- the word of bit i, shifted down to bit i
module _ (ws : List ℕ) (i : ℕ) where
  pub shifted_bit : (k : ℕ) → i ≤ k → k / 64 ≡ i / 64 → bit ws k ≡ on (get_or ws (i / 64) 0 / 2 ^ (i % 64)) (k - i)
  shifted_bit k le same =
      let e : i % 64 + (k - i) ≡ k % 64 = omega arith in
      ap (λ x. on (get_or ws x 0) (k % 64)) same ∙ ap (on (get_or ws (i / 64) 0)) (sym e) ∙ sym (on_shr (get_or ws (i / 64) 0) (i % 64) (k - i))

  pub flipped_bit : get_or ws (i / 64) 0 < 2 ^ 64 → (k : ℕ) → i ≤ k → k / 64 ≡ i / 64 → not (bit ws k) ≡ on ((2 ^ 64 - 1 - get_or ws (i / 64) 0) / 2 ^ (i % 64)) (k - i)
  flipped_bit fit k le same =
      let e : i % 64 + (k - i) ≡ k % 64 = omega arith in
      ap (λ x. not (on (get_or ws x 0) (k % 64))) same
      ∙ sym (on-not 64 (get_or ws (i / 64) 0) (k % 64) fit (omega arith))
      ∙ ap (on (2 ^ 64 - 1 - get_or ws (i / 64) 0)) (sym e)
      ∙ sym (on_shr (2 ^ 64 - 1 - get_or ws (i / 64) 0) (i % 64) (k - i))

-- a test p of bits, which the number x answers in the word of bit i
module _ (p : ℕ → Bool) (i x : ℕ) (is : (k : ℕ) → i ≤ k → k / 64 ≡ i / 64 → p k ≡ on (x / 2 ^ (i % 64)) (k - i)) where
  pub scan_before : (k : ℕ) → i ≤ k → k < i + count_trailing_zeros 64 (x / 2 ^ (i % 64)) → k / 64 ≡ i / 64 → p k ≡ false
  scan_before k le lt same = is k le same ∙ trailing_clear 64 (x / 2 ^ (i % 64)) (k - i) (omega arith)

  pub scan_found : i % 64 + count_trailing_zeros 64 (x / 2 ^ (i % 64)) < 64 → p (i + count_trailing_zeros 64 (x / 2 ^ (i % 64))) ≡ true
  scan_found lt =
      let t = count_trailing_zeros 64 (x / 2 ^ (i % 64)) in
      let e : i + t - i ≡ t = omega arith in
      is (i + t) (omega arith) (omega arith) ∙ ap (on (x / 2 ^ (i % 64))) e ∙ trailing_set 64 (x / 2 ^ (i % 64)) (omega arith)

-- a bit that the words do not have
pub bit_past : (words : List ℕ) (k : ℕ) → length words ≤ k / 64 → bit words k ≡ false
bit_past words k le = ap (λ x. on x (k % 64)) (get_or_past words (k / 64) 0 le) ∙ on_zero (k % 64)

-- a run of bits below m was followed to i, which is its end or m or more
module _ (a e i m k : ℕ) (ai : a ≤ i) (ie : i ≤ max a e) (done : min e m ≤ i) where
  ended : k < m → within a i k ≡ within a e k
  ended lt =
      ⊎_elim
      (λ b. not_run a i k (inl b) ∙ sym (not_run a e k (inl b)))
      (λ b. ap (λ t. leb a k && t) (ltb_same k i k e (λ h. omega arith) (λ h. omega arith)))
      (cases_lt k a)

  pub set_ended : (within a i k && ltb k m) ≡ (within a e k && ltb k m)
  set_ended =
      ⊎_elim
      (λ lt. ap (λ t. t && ltb k m) (ended lt))
      (λ ge. let f = le-ltb k m ge in and_right (within a i k) (ltb k m) f ∙ sym (and_right (within a e k) (ltb k m) f))
      (cases_lt k m)

  pub clear_ended : (b : Bool) → (m ≤ k → b ≡ false) → (not (within a i k) && b) ≡ (not (within a e k) && b)
  clear_ended b off =
      ⊎_elim
      (λ lt. ap (λ t. not t && b) (ended lt))
      (λ ge. let f = off ge in and_right (not (within a i k)) b f ∙ sym (and_right (not (within a e k)) b f))
      (cases_lt k m)

-- word w was written: v has the digits s where p has one, and p has those of the run a..e
module _ (ws : List ℕ) (a e w v p : ℕ) (s : Bool) (lt : w < length ws) (is : (j : ℕ) → j < 64 → on v j ≡ cond (on p j) s (on (get_or ws w 0) j)) (here : (j : ℕ) → j < 64 → on p j ≡ within a e (64 * w + j)) where
  pub written : (k : ℕ) → bit (set ws w v) k ≡ cond (within a e k && eqb (k / 64) w) s (bit ws k)
  written k =
      ⊎_elim
      (λ q.
      let t : 64 * w + k % 64 ≡ k = omega arith in
      let own : get_or (set ws w v) (k / 64) 0 ≡ v = rw q (rw get_or-set_same) in
      let d = is (k % 64) (omega arith) in
      let h = here (k % 64) (omega arith) in
      grind (arith, nat_tests))
      (λ x. let ne : k / 64 ≢ w = x in let other : get_or (set ws w v) (k / 64) 0 ≡ get_or ws (k / 64) 0 = rw get_or-set_other in grind (arith, nat_tests))
      (cases_eq (k / 64) w)

-- the words before w were written, and w is behind the run or behind the n words
pub filled : (a e n w k : ℕ) (s b : Bool) → (e ≤ 64 * w) ⊎ (n ≤ w) → (w ≤ n) ⊎ (64 * w ≤ a) → cond (within a e k && ltb k (64 * w)) s b ≡ cond (within a e k && ltb k (64 * n)) s b
filled a e n w k s b past own = grind (arith, nat_tests)

-- the bit at digit t of word w is the first of those from a on, from that word on, that is s
pub record Met (ws : List ℕ) (a w t : ℕ) (s : Bool) : Type 0 where
  pub from : a ≤ 64 * w + t
  pub is : bit ws (64 * w + t) ≡ s
  pub before : (k : ℕ) → a ≤ k → k < 64 * w + t → 64 * w ≤ k → bit ws k ≡ not s

-- word w is read as x, which has the digits of its bits that are s, and p has those of the bits from a on
module _ (ws : List ℕ) (a w x p : ℕ) (s : Bool) (is : (j : ℕ) → j < 64 → on x j ≡ cond s (on (get_or ws w 0) j) (not (on (get_or ws w 0) j))) (here : (j : ℕ) → j < 64 → on p j ≡ leb a (64 * w + j)) where
  digit : (k : ℕ) → k / 64 ≡ w → on (bit_and x p) (k % 64) ≡ (cond s (bit ws k) (not (bit ws k)) && leb a k)
  digit k q =
      let t : 64 * w + k % 64 ≡ k = omega arith in
      on_and x p (k % 64) ∙ ap₂ (λ u v. u && v)
      (is (k % 64) (omega arith) ∙ ap (λ v. cond s (on (get_or ws v 0) (k % 64)) (not (on (get_or ws v 0) (k % 64)))) (sym q))
      (here (k % 64) (omega arith) ∙ ap (leb a) t)

  -- a digit that is 0, and the lowest that is 1
  pub missed : (k : ℕ) → k / 64 ≡ w → a ≤ k → bit_at (bit_and x p) (k % 64) ≡ 0 → bit ws k ≡ not s
  missed k q le z = grind (arith, nat_tests, digit k q)

  pub met : p < 2 ^ 64 → bit_and x p ≢ 0 → Met ws a w (trailing_zeros w64 (bit_and x p)) s
  met fit some =
      let t = trailing_zeros w64 (bit_and x p) in
      let z = bit_at-trailing_zeros w64 (bit_and x p) (omega arith) (omega (arith, and_le_r x p)) in
      let q : (64 * w + t) / 64 ≡ w = omega (arith, z.0) in
      let r : (64 * w + t) % 64 ≡ t = omega (arith, z.0) in
      let d = digit (64 * w + t) q in
      let one : on (bit_and x p) ((64 * w + t) % 64) ≡ true = grind (arith, nat_tests, r, z.1) in
      record {
        from = grind (arith, nat_tests);
        is = grind (arith, nat_tests);
        before = λ k le lt ge. let m : k % 64 < t = omega (arith, z.0) in missed k (omega (arith, z.0)) le (z.2 (k % 64) m);
      }
