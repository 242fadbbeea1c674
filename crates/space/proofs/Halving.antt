-- `lies` is what halving gives: n lies in m where n / 2 ^ k is m for some k.
use Rattle.std.proofs.Common.{◌≡◌, ℕ, zero, suc, ◌+◌, ◌-◌, ◌*◌, ◌/◌, ◌^◌, ◌<◌, ◌≤◌, true, false, is_some, Some, None, Option, sym, ap, ◌∙◌, ⊎_elim, add-mul, div-mul-le_self, arith, pow_pos, MatchOption}
use Rattle.std.proofs.lemmas.Nat.{le-div, div_below, mul-le}
use Rattle.std.proofs.lemmas.Bool.{cases_lt}
use Rattle.space.specs.Places.{lies, depth_of}
use Rattle.space.proofs.Depths.{half_more, depth_halved}
use Rattle.space.proofs.Lies.{lies_each, lies_self, lies_half, lies_le, lies_pos}

pub lies_halved : (k n m : ℕ) → 0 < m → n / 2 ^ k ≡ m → lies n m ≡ true
lies_halved zero n m pos e = let d : n / 2 ^ 0 ≡ n = omega arith in rw (sym d ∙ e) (lies_self m pos)
lies_halved (suc k) n m pos e =
    let up : lies (n / 2) m ≡ true = lies_halved k (n / 2) m pos (sym (half_more n k) ∙ e) in
    let le = lies_le (n / 2) m up in
    lies_half n m (omega arith) (λ q. omega arith) ∙ up

pub halved_lies : (n m : ℕ) → 0 < m → lies n m ≡ true → (k : ℕ) × (n / 2 ^ k ≡ m)
halved_lies n m pos l =
    lies_each (λ x. (k : ℕ) × (x / 2 ^ k ≡ m)) m (0, let d : m / 2 ^ 0 ≡ m = omega arith in d) (λ x lt half t. (suc t.0, half_more x t.0 ∙ t.1)) n l

-- how many halvings it takes: the difference of the depths
pub lies_by_depths : (n m : ℕ) → lies n m ≡ true → (0 < m) × (depth_of m ≤ depth_of n) × (n / 2 ^ (depth_of n - depth_of m) ≡ m)
lies_by_depths n m l =
    let pos = lies_pos n m l in
    let t = halved_lies n m pos l in
    let left : 0 < n / 2 ^ t.0 = rw t.1 pos in
    let e : depth_of n ≡ depth_of m + t.0 = depth_halved t.0 n left ∙ ap (λ x. depth_of x + t.0) t.1 in
    let k : depth_of n - depth_of m ≡ t.0 = omega arith in
    (pos, omega arith, ap (λ x. n / 2 ^ x) k ∙ t.1)

pub some_lies : (o : Option ℕ) (n m : ℕ) → MatchOption o (lies n m ≡ false) (λ k. (0 < m) × (n / 2 ^ k ≡ m)) → is_some o ≡ lies n m
some_lies (Some k) n m h = sym (lies_halved k n m h.0 h.1)
some_lies None n m h = sym h

-- of two places over one place, one lies in the other
pub lies_nested : (a b c : ℕ) → b ≤ c → 0 < b → lies a b ≡ true → lies a c ≡ true → lies c b ≡ true
lies_nested a b c bc pos x y =
    lies_each (λ k. lies k b ≡ true → lies c b ≡ true) c (λ l. l)
    (λ k lt half ih l. let up = lies_le (k / 2) c half in ih (sym (lies_half k b (omega arith) (λ q. omega arith)) ∙ l)) a y x

-- n halved k times is h: so are the numbers from n on, up to the last that h has of n's depth
module _ (k n h : ℕ) (pos : 0 < h) (e : n / 2 ^ k ≡ h) where
  pub run_over : n < (h + 1) * 2 ^ k
  run_over = ⊎_elim (λ lt. lt) (λ ge. let q = le-div (h + 1) n (2 ^ k) (pow_pos k) ge in absurd (omega arith)) (cases_lt n ((h + 1) * 2 ^ k))

  pub run_short : (h + 1) * 2 ^ k ≤ 2 * n
  run_short =
      let a : h * 2 ^ k ≤ n = rw e at (div-mul-le_self n (2 ^ k)) in
      let b = mul-le 1 (2 ^ k) h (2 ^ k) pos (omega arith) in
      let c = add-mul h 1 (2 ^ k) in
      omega arith

  pub run_lies : (j : ℕ) → n ≤ j → j < (h + 1) * 2 ^ k → lies j h ≡ true
  run_lies j le lt =
      let a : h * 2 ^ k ≤ n = rw e at (div-mul-le_self n (2 ^ k)) in
      let lo = le-div h j (2 ^ k) (pow_pos k) (omega arith) in
      let hi = div_below j (2 ^ k) (h + 1) (pow_pos k) lt in
      lies_halved k j h pos (omega arith)
