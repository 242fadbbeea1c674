-- From the words to the two rows of bits.
use Rattle.std.proofs.Common.{◌≡◌, ℕ, ◌+◌, ◌-◌, ◌*◌, ◌/◌, ◌%◌, ◌^◌, ◌<◌, ◌≤◌, Bool, true, false, cond, not, ◌&&◌, ◌||◌, List, ◌++◌, get_or, drop, replicate, ap, ◌∙◌, ⊎_elim, arith, pow_mono}
use mathlib.Core.Path.{fun_ext}
use Rattle.std.proofs.lemmas.Bool.{cases_lt, both_ways, lt-ltb, le-ltb, le-leb, and_from, false_from_ne_true}
use Rattle.std.proofs.lemmas.Bool.Decides.{nat_tests}
use Rattle.std.proofs.lemmas.List.{get_or_append_left, get_or-replicate, length-replicate}
use Rattle.std.proofs.lemmas.Nat.{pow-add, pow_below}
use Rattle.space.specs.Places.{is_place}
use Rattle.space.specs.Meaning.{fresh}
use Rattle.bits.specs.Bit.{on, bit, within}
use Rattle.bits.proofs.Digits.{on_zero}
use Rattle.bitmap.specs.Map.{has, room, share, first, marked, starts, map_out, map_meaning, Kept, Borne, sits, Tidy, Marks}
use Rattle.bitmap.specs.Whole.{out_of}

-- a share has a bit for each unit
pub share_fits : (d : ℕ) → 2 ^ d ≤ 64 * share d
unfolding share
share_fits d =
    ⊎_elim
    (λ lt. let p : 2 ^ d < 2 ^ 6 = pow_below d 6 lt in omega arith)
    (λ ge.
    let z : d ≡ d - 6 + 6 = omega arith in
    let e : 2 ^ d ≡ 2 ^ (d - 6) * 2 ^ 6 = ap (λ x. 2 ^ x) z ∙ pow-add 2 (d - 6) 6 in
    omega arith)
    (cases_lt d 6)

pub pow_12 : (d : ℕ) → d ≤ 12 → 2 ^ d ≤ 4096
pow_12 d le = pow_mono le

-- the invariant and its two parts
module _ (d : ℕ) (cov st : ℕ → Bool) where
  pub kept_of : ((u : ℕ) → sits d cov st u ≡ true) → Kept d cov st
  unfolding sits
  kept_of t u c = let s = t u in grind (arith, nat_tests)

  pub borne_of : ((u : ℕ) → sits d cov st u ≡ true) → Borne cov st
  unfolding sits
  borne_of t u c = let s = t u in grind (arith, nat_tests)

  pub sits_of : Kept d cov st → Borne cov st → (u : ℕ) → sits d cov st u ≡ true
  unfolding sits
  sits_of k b u = let x = k u in let y = b u in grind (arith, nat_tests)

pub has_parts : (d n : ℕ) → has d n ≡ true → (0 < d) × (is_place d n ≡ true)
has_parts d n h = (grind (arith, nat_tests), grind (arith, nat_tests))

-- a unit of the map is a bit of each share
module _ (d : ℕ) (ws : List ℕ) (u : ℕ) where
  pub marked-bit : u < 64 * share d → marked d ws u ≡ bit ws u
  marked-bit lt = ap (λ t. t && bit ws u) (lt-ltb u (64 * share d) lt)

  pub starts-bit : u < 64 * share d → starts d ws u ≡ bit ws (64 * share d + u)
  starts-bit lt = ap (λ t. t && bit ws (64 * share d + u)) (lt-ltb u (64 * share d) lt)

  pub marked_past : 64 * share d ≤ u → marked d ws u ≡ false
  marked_past le = ap (λ t. t && bit ws u) (le-ltb u (64 * share d) le)

  pub starts_past : 64 * share d ≤ u → starts d ws u ≡ false
  starts_past le = ap (λ t. t && bit ws (64 * share d + u)) (le-ltb u (64 * share d) le)

-- the units from a to before e were marked, or cleared
module _ (d : ℕ) (ws vs : List ℕ) (a e : ℕ) (out : Bool) (le : e ≤ 64 * share d) (less : a < e) (bits : Marks d a e out ws vs) where
  pub marked_now : (u : ℕ) → marked d vs u ≡ cond (within a e u) out (marked d ws u)
  marked_now u = grind (arith, nat_tests, bits u)

  pub starts_now : (u : ℕ) → starts d vs u ≡ cond (within a (a + 1) u) out (starts d ws u)
  starts_now u = grind (arith, nat_tests, bits (64 * share d + u))

module _ (d : ℕ) (ws vs : List ℕ) (a e : ℕ) (ae : a < e) (le : e ≤ 64 * share d) where
  module _ (bits : (k : ℕ) → bit vs k ≡ (within (64 * share d + a) (64 * share d + a + 1) k || (within a e k || bit ws k))) where
    set_marks : Marks d a e true ws vs
    set_marks k = let b = bits k in grind (arith, nat_tests)

    pub marked_set : (u : ℕ) → marked d vs u ≡ (within a e u || marked d ws u)
    marked_set u = let m = marked_now d ws vs a e true le ae set_marks u in grind (arith, nat_tests)

    pub starts_set : (u : ℕ) → starts d vs u ≡ (within a (a + 1) u || starts d ws u)
    starts_set u = let m = starts_now d ws vs a e true le ae set_marks u in grind (arith, nat_tests)

  module _ (bits : (k : ℕ) → bit vs k ≡ (not (within (64 * share d + a) (64 * share d + a + 1) k) && (not (within a e k) && bit ws k))) where
    clear_marks : Marks d a e false ws vs
    clear_marks k = let b = bits k in grind (arith, nat_tests)

    pub marked_cleared : (u : ℕ) → marked d vs u ≡ (not (within a e u) && marked d ws u)
    marked_cleared u = let m = marked_now d ws vs a e false le ae clear_marks u in grind (arith, nat_tests)

    pub starts_cleared : (u : ℕ) → starts d vs u ≡ (not (within a (a + 1) u) && starts d ws u)
    starts_cleared u = let m = starts_now d ws vs a e false le ae clear_marks u in grind (arith, nat_tests)

pub clear_front : (n : ℕ) (ws : List ℕ) (k : ℕ) → k < n → get_or (replicate n 0 ++ drop n ws) k 0 ≡ 0
clear_front n ws k lt =
    let len = length-replicate {A = ℕ} n 0 in
    get_or_append_left (replicate n 0) (drop n ws) 0 k (omega arith) ∙ get_or-replicate n k 0 0 lt

-- the first m words were wiped, which are those of the shares or more
pub wiped : (d m : ℕ) (ws vs : List ℕ) → 2 * share d ≤ m → vs ≡ replicate m 0 ++ drop m ws → (k : ℕ) → k < 2 * share d → get_or vs k 0 ≡ 0
wiped d m ws vs le e k lt =
    let len = length-replicate {A = ℕ} m 0 in
    ap (λ x. get_or x k 0) e ∙ get_or_append_left (replicate m 0) (drop m ws) 0 k (omega arith) ∙ get_or-replicate m k 0 0 (omega arith)

module _ (d : ℕ) (ws : List ℕ) (clear : (k : ℕ) → k < 2 * share d → get_or ws k 0 ≡ 0) where
  none : (i : ℕ) → i < 128 * share d → bit ws i ≡ false
  none i lt = ap (λ w. on w (i % 64)) (clear (i / 64) (omega arith)) ∙ on_zero (i % 64)

  none_marked : (u : ℕ) → marked d ws u ≡ false
  none_marked u = let b = none u in grind (arith, nat_tests)

  none_starts : (u : ℕ) → starts d ws u ≡ false
  none_starts u = let b = none (64 * share d + u) in grind (arith, nat_tests)

  pub tidy_clear : Tidy d ws
  tidy_clear = sits_of d (marked d ws) (starts d ws) (λ u c. absurd (both_ways (marked d ws u) (none_marked u) c)) (λ u s. absurd (both_ways (starts d ws u) (none_starts u) s))

  pub fresh_clear : 0 < d → map_meaning d ws ≡ fresh d
  fresh_clear live = λ i. record { depth = d; out = fun_ext none_out i; rule = λ p n. lt-ltb 0 d live i }
    where
      none_out : (n : ℕ) → map_out d (marked d ws) (starts d ws) n ≡ false
      none_out n = false_from_ne_true (map_out d (marked d ws) (starts d ws) n) (λ e. both_ways (starts d ws (first d n)) (none_starts (first d n)) (out_of d (marked d ws) (starts d ws) n e).is.start)

pub room-true : (d len : ℕ) → 1 ≤ d → d ≤ 12 → 2 * share d ≤ len → room d len ≡ true
room-true d len a b c = and_from _ _ (and_from _ _ (le-leb 1 d a) (le-leb d 12 b)) (le-leb (2 * share d) len c)
