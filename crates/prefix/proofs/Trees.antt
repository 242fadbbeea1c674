-- The blocks of a tree under a root, at any width: a block of k bits more than the root's r, e bits before the end.
use Rattle.std.proofs.Common.{◌≡◌, ℕ, ◌+◌, ◌-◌, ◌*◌, ◌/◌, ◌%◌, ◌^◌, ◌<◌, ◌≤◌, true, false, sym, ap, ◌∙◌, subst, ⊎_elim, mul_assoc, add-mul, arith, pow-add, pow_mono}
use native.Mathlib.Nat.{mul-mod_left}
use Rattle.std.proofs.lemmas.Nat.{pow_pos, shr_split, shl_below, shr_below, shr_high, mod_low, shl-shr, mul-add-lt, mod_below, mod-pow-add, shl_whole}
use Rattle.std.proofs.lemmas.Bool.{cond-false, cases_lt}
use Rattle.std.proofs.lemmas.Bool.Decides.{nat_tests}
use Rattle.prefix.specs.Bits.{front, middle}
use Rattle.prefix.specs.Form.{Block}
use Rattle.prefix.specs.Prefixes.{Valid}
use Rattle.prefix.specs.Places.{fits, belongs, place, is_place, block_down}
use Rattle.prefix.proofs.Making.{block_same}

-- a number's depth in the tree is one number
pub depth_below : (j k n : ℕ) → 2 ^ j ≤ n → n < 2 ^ (k + 1) → j ≤ k
depth_below j k n low high = ⊎_elim (λ h. absurd (omega (arith, pow_mono {i = k + 1} {j = j} (omega arith)))) (λ h. h) (cases_lt k j)

pub depth_one : (j k n : ℕ) → 2 ^ j ≤ n → n < 2 ^ (j + 1) → 2 ^ k ≤ n → n < 2 ^ (k + 1) → j ≡ k
depth_one j k n jl jh kl kh = omega (arith, depth_below j k n jl kh, depth_below k j n kl jh)

-- a is a multiple of 2 ^ (k + e) with r bits before those, and m has k bits
module _ (r k e a m : ℕ) (small : a < 2 ^ (r + (k + e))) (clear : a % 2 ^ (k + e) ≡ 0) (short : m < 2 ^ k) where
  rest : m * 2 ^ e < 2 ^ (k + e)
  rest = shl_below m k e short

  whole : a ≡ a / 2 ^ (k + e) * 2 ^ (k + e)
  whole = omega (arith, shr_split a (k + e))

  sum_below : a + m * 2 ^ e < 2 ^ (r + (k + e))
  sum_below = rw (whole, pow-add 2 r (k + e)) (omega (arith, mul-add-lt (a / 2 ^ (k + e)) (2 ^ (k + e)) (m * 2 ^ e) (2 ^ r) (shr_below a r (k + e) small) rest))

  sum_front : (a + m * 2 ^ e) / 2 ^ (k + e) ≡ a / 2 ^ (k + e)
  sum_front = ap (λ x. (x + m * 2 ^ e) / 2 ^ (k + e)) whole ∙ shr_high (a / 2 ^ (k + e)) (k + e) (m * 2 ^ e) rest

  factored : a + m * 2 ^ e ≡ (a / 2 ^ (k + e) * 2 ^ k + m) * 2 ^ e
  factored =
      ap (λ x. x + m * 2 ^ e) (whole ∙ ap (λ x. a / 2 ^ (k + e) * x) (pow-add 2 k e) ∙ sym (mul_assoc (a / 2 ^ (k + e)) (2 ^ k) (2 ^ e)))
      ∙ sym (add-mul (a / 2 ^ (k + e) * 2 ^ k) m (2 ^ e))

  sum_middle : (a + m * 2 ^ e) / 2 ^ e % 2 ^ k ≡ m
  sum_middle = ap (λ x. x / 2 ^ e % 2 ^ k) factored ∙ ap (λ x. x % 2 ^ k) (shl-shr (a / 2 ^ (k + e) * 2 ^ k + m) e) ∙ mod_low (a / 2 ^ (k + e)) k m short

  sum_clear : (a + m * 2 ^ e) % 2 ^ e ≡ 0
  sum_clear = ap (λ x. x % 2 ^ e) factored ∙ mul-mod_left (a / 2 ^ (k + e) * 2 ^ k + m) (2 ^ e)

-- the same by the width, the root and a place n of depth k
module _ (w : ℕ) (root : Block) (v : Valid w root) (n k : ℕ) (inside : root.length + k ≤ w) (low : 2 ^ k ≤ n) (high : n < 2 ^ (k + 1)) where
  all : w ≡ root.length + (k + (w - (root.length + k)))
  all = omega arith

  left : w - root.length ≡ k + (w - (root.length + k))
  left = omega arith

  small : root.first < 2 ^ (root.length + (k + (w - (root.length + k))))
  small = subst (λ x. root.first < 2 ^ x) all v.small

  clear : root.first % 2 ^ (k + (w - (root.length + k))) ≡ 0
  clear = subst (λ x. root.first % 2 ^ x ≡ 0) left v.clear

  short : n - 2 ^ k < 2 ^ k
  short = omega (arith, pow-add 2 k 1)

  pub path_small : (n - 2 ^ k) * 2 ^ (w - (root.length + k)) < 2 ^ (w - root.length)
  path_small = subst (λ x. (n - 2 ^ k) * 2 ^ (w - (root.length + k)) < 2 ^ x) (sym left) (shl_below (n - 2 ^ k) k (w - (root.length + k)) short)

  pub down_below : (block_down w root k n).first < 2 ^ w
  down_below = subst (λ x. (block_down w root k n).first < 2 ^ x) (sym all) (sum_below root.length k (w - (root.length + k)) root.first (n - 2 ^ k) small clear short)

  pub down_clear : (block_down w root k n).first % 2 ^ (w - (root.length + k)) ≡ 0
  down_clear = sum_clear root.length k (w - (root.length + k)) root.first (n - 2 ^ k) small clear short

  down_front : front w root.length (block_down w root k n).first ≡ front w root.length root.first
  down_front = subst (λ x. (block_down w root k n).first / 2 ^ x ≡ root.first / 2 ^ x) (sym left) (sum_front root.length k (w - (root.length + k)) root.first (n - 2 ^ k) small clear short)

  down_middle : 2 ^ (root.length + k - root.length) + middle w root.length (root.length + k) (block_down w root k n).first ≡ n
  down_middle =
      let steps : root.length + k - root.length ≡ k = omega arith in
      subst (λ x. 2 ^ x + (block_down w root k n).first / 2 ^ (w - (root.length + k)) % 2 ^ x ≡ n) (sym steps)
      (omega (arith, sum_middle root.length k (w - (root.length + k)) root.first (n - 2 ^ k) small clear short))

  -- the block at a place has that place
  pub place_down : (d : ℕ) → fits w root d ≡ true → k ≤ d → place w root d (block_down w root k n) ≡ n
  place_down d f kd =
      let b : belongs w root d (block_down w root k n) ≡ true = grind (arith, nat_tests, down_front) in
      rw b down_middle

-- the four ways in which a number is no place
pub too_deep : (w : ℕ) (root : Block) (d n : ℕ) → 12 < d → is_place w root d n ≡ false
too_deep w root d n h = grind (arith, nat_tests)

pub too_narrow : (w : ℕ) (root : Block) (d n : ℕ) → w < root.length + d → is_place w root d n ≡ false
too_narrow w root d n h = grind (arith, nat_tests)

pub no_zero : (w : ℕ) (root : Block) (d n : ℕ) → n ≡ 0 → is_place w root d n ≡ false
no_zero w root d n h = grind (arith, nat_tests)

pub too_far : (w : ℕ) (root : Block) (d n : ℕ) → 2 ^ (d + 1) ≤ n → is_place w root d n ≡ false
too_far w root d n h = grind (arith, nat_tests)

-- `2 << d`, where it fits
pub shifted_two : (d : ℕ) → d ≤ 12 → (2 * 2 ^ d) % 2 ^ 64 ≡ 2 ^ (d + 1)
shifted_two d h = omega (arith, shl_whole 2 2 d 64 (omega arith) (omega arith), pow-add 2 d 1)

-- where a prefix belongs, its place is a place of its own depth, and the block there is the prefix
module _ (w : ℕ) (root b : Block) (d : ℕ) (vr : Valid w root) (vb : Valid w b) (yes : belongs w root d b ≡ true) where
  longer : root.length ≤ b.length
  longer = grind (arith, nat_tests)

  same_front : front w root.length b.first ≡ front w root.length root.first
  same_front = grind (arith, nat_tests)

  path : ℕ
  path = middle w root.length b.length b.first

  path_below : path < 2 ^ (b.length - root.length)
  unfolding path
  path_below = mod_below (b.first / 2 ^ (w - b.length)) (2 ^ (b.length - root.length)) (pow_pos (b.length - root.length))

  own : place w root d b ≡ 2 ^ (b.length - root.length) + path
  unfolding path
  own = rw yes

  pub own_low : 2 ^ (b.length - root.length) ≤ place w root d b
  own_low = omega (arith, own)

  pub own_high : place w root d b < 2 ^ (b.length - root.length + 1)
  own_high = omega (arith, own, path_below, pow-add 2 (b.length - root.length) 1)

  pub own_place : is_place w root d (place w root d b) ≡ true
  own_place =
      let shorter : b.length ≤ root.length + d = grind (arith, nat_tests) in
      let m = pow_mono {i = b.length - root.length + 1} {j = d + 1} (omega arith) in
      grind (arith, nat_tests, own_low, own_high, pow_pos (b.length - root.length))

  -- the first address: the root's bits, then the path, then zeros
  first_is : root.first + path * 2 ^ (w - b.length) ≡ b.first
  unfolding path
  first_is =
      let h : w - root.length ≡ (b.length - root.length) + (w - b.length) = omega (arith, longer, vb.within) in
      let r : root.first ≡ front w root.length root.first * 2 ^ (w - root.length) = omega (arith, shr_split root.first (w - root.length), vr.clear) in
      let s : b.first ≡ front w root.length b.first * 2 ^ (w - root.length) + b.first % 2 ^ (w - root.length) = sym (shr_split b.first (w - root.length)) in
      let m : b.first % 2 ^ (w - root.length) ≡ (b.first / 2 ^ (w - b.length) % 2 ^ (b.length - root.length)) * 2 ^ (w - b.length) + b.first % 2 ^ (w - b.length) =
      ap (λ x. b.first % 2 ^ x) h ∙ mod-pow-add b.first (b.length - root.length) (w - b.length) in
      let q : front w root.length b.first * 2 ^ (w - root.length) ≡ front w root.length root.first * 2 ^ (w - root.length) = ap (λ x. x * 2 ^ (w - root.length)) same_front in
      omega (arith, r, s, m, q, vb.clear)

  pub own_block : block_down w root (b.length - root.length) (place w root d b) ≡ b
  own_block =
      let l : root.length + (b.length - root.length) ≡ b.length = omega (arith, longer) in
      let n : place w root d b - 2 ^ (b.length - root.length) ≡ path = omega (arith, own) in
      let f : root.first + (place w root d b - 2 ^ (b.length - root.length)) * 2 ^ (w - (root.length + (b.length - root.length))) ≡ b.first =
      ap (λ x. root.first + x * 2 ^ (w - (root.length + (b.length - root.length)))) n ∙ ap (λ x. root.first + path * 2 ^ (w - x)) l ∙ first_is in
      block_same _ b.first _ b.length f l

-- where it does not belong, its place is 0
pub no_place : (w : ℕ) (root b : Block) (d : ℕ) → belongs w root d b ≡ false → place w root d b ≡ 0
no_place w root b d out = cond-false (belongs w root d b) _ 0 out
