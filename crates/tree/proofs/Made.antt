-- A tree whose bytes are clear, and when there is room for one.
use Rattle.std.proofs.Common.{◌≡◌, ℕ, ◌+◌, ◌*◌, ◌^◌, ◌<◌, ◌≤◌, true, false, List, ◌++◌, replicate, arith}
use mathlib.Core.Path.{fun_ext}
use Rattle.std.proofs.lemmas.List.{get_or_append_left, get_or-replicate, length-replicate}
use Rattle.std.proofs.lemmas.Bool.{and_from, lt-ltb, le-leb, false_from_ne_true}
use Rattle.space.specs.Meaning.{fresh}
use Rattle.space.proofs.Depths.{pow_more, place_below}
use Rattle.tree.specs.Tree.{byte, Tidy, tree_out, tree_meaning, room}
use Rattle.tree.specs.Sound.{out_parts}
use Rattle.tree.proofs.Agreeing.{low_node}

module _ (d : ℕ) (b : List ℕ) (clear : (k : ℕ) → k < 2 ^ (d + 1) → byte b k ≡ 0) where
  pub tidy_wiped : Tidy d b
  tidy_wiped n pl =
      let low = place_below d n pl in
      let p = pow_more d in
      low_node d b n (omega (arith, clear n low)) (λ lt. omega (arith, clear (2 * n) (omega arith), clear (2 * n + 1) (omega arith)))

  none_out : (n : ℕ) → tree_out d b n ≡ false
  none_out n = false_from_ne_true (tree_out d b n) (λ e. let o = out_parts d b n e in let z = clear n o.low in omega (arith, o.one))

  pub fresh_wiped : 0 < d → tree_meaning d b ≡ fresh d
  fresh_wiped live = λ i. record { depth = d; out = fun_ext none_out i; rule = λ p n. lt-ltb 0 d live i }

-- zeros in front
pub wiped_clear : (n m : ℕ) (xs ys : List ℕ) → xs ≡ replicate m 0 → n ≤ m → (k : ℕ) → k < n → byte (xs ++ ys) k ≡ 0
wiped_clear n m xs ys e le k lt = grind (arith, get_or_append_left, get_or-replicate, length-replicate)

pub room-true : (d len : ℕ) → 1 ≤ d → d ≤ 12 → 2 ^ (d + 1) ≤ len → room d len ≡ true
room-true d len a b c = and_from _ _ (and_from _ _ (le-leb 1 d a) (le-leb d 12 b)) (le-leb (2 ^ (d + 1)) len c)
