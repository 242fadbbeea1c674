-- What is no place gives the root; the block at a place has the root's bits, then the place's.
use Rattle.std.proofs.Common.{◌≡◌, ℕ, ◌+◌, ◌-◌, ◌*◌, ◌%◌, ◌^◌, ◌<◌, ◌≤◌, true, false, refl, ap, ◌∙◌, mod-eq_of_lt, pow_mono, pow-add, arith}
use Rattle.std.proofs.lemmas.Nat.{one_shl}
use Rattle.std.proofs.lemmas.Bool.{both_ways}
use Rattle.std.proofs.lemmas.Bool.Decides.{nat_tests}
use Rattle.prefix.specs.Bits.{cleared}
use Rattle.prefix.specs.Form.{Block, block}
use Rattle.prefix.specs.Places.{fits, place, is_place, block_down}
use Rattle.prefix.proofs.Making.{cleared_same, block_same}
use Rattle.prefix.proofs.Trees.{too_deep, too_narrow, no_zero, too_far, shifted_two, depth_below, depth_one, path_small, down_below, down_clear, place_down}
use Rattle.prefix.proofs.family.Family.prefix_at.Given.{Over}
use Rattle.prefix.proofs.family.Family.prefix_at.Goals as goal
use Rattle.prefix.proofs.family.Family.prefix_at.Goals.{After-number, After-raised, then-depth-gt12-via-then-depth-gt12, then-depth-gt12-via-else-depth-gt12+then-depth-WIDTH, then-depth-gt12-via-else-depth-gt12+else-depth-WIDTH+then-n-eq0, then-depth-gt12-via-else-depth-gt12+else-depth-WIDTH+else-n-eq0+then-n-depth}

pub returns-then-depth-gt12 : goal.returns-then-depth-gt12
returns-then-depth-gt12 g c =
    let w = g.Self.Family.WIDTH in
    let root = block g.Self.Family.form c.args.root.now in
    let d = c.args.depth in
    let n = c.args.n in
    let no : is_place w root d n ≡ false =
    elim c.then-depth-gt12.branch [
      | then-depth-gt12-via-then-depth-gt12 x ↦ too_deep w root d n x.if-depth-gt12.true
      | then-depth-gt12-via-else-depth-gt12+then-depth-WIDTH x ↦ too_narrow w root d n (omega (arith, (g.met.Self.Family.valid c.args.root.now).within))
      | then-depth-gt12-via-else-depth-gt12+else-depth-WIDTH+then-n-eq0 x ↦ no_zero w root d n x.if-n-eq0.true
      | then-depth-gt12-via-else-depth-gt12+else-depth-WIDTH+else-n-eq0+then-n-depth x ↦ too_far w root d n (omega (arith, shifted_two d x.if-depth-gt12.false))
    ] in
    record { inside = λ k t. absurd (both_ways _ no t); outside = λ _. refl; back = λ t. absurd (both_ways _ no t) }

-- behind the tests: n has a depth k in the tree
record Found (w : ℕ) (root : Block) (d n k : ℕ) : Type 0 where
  low : 2 ^ k ≤ n
  high : n < 2 ^ (k + 1)
  within : k ≤ d
  inside : root.length + k ≤ w

found : (g : Over) (c : After-number g) → Found g.Self.Family.WIDTH (block g.Self.Family.form c.args.root.now) c.args.depth c.args.n c.ilog2-below.result
found g c =
    let k = c.ilog2-below.result in
    let within = depth_below k c.args.depth c.args.n c.ilog2-below.ensures.power_le (omega (arith, shifted_two c.args.depth c.if-depth-gt12.false)) in
    record { low = c.ilog2-below.ensures.power_le; high = omega (arith, pow-add 2 k 1); within = within; inside = omega (arith, (g.met.Self.Family.valid c.args.root.now).within) }

-- what is raised behind the root's first address
raised_path : (g : Over) (c : After-raised g) → Found g.Self.Family.WIDTH (block g.Self.Family.form c.args.root.now) c.args.depth c.args.n c.ilog2-below.result
    → c.number.result + c.raised.result ≡ (block_down g.Self.Family.WIDTH (block g.Self.Family.form c.args.root.now) c.ilog2-below.result c.args.n).first
raised_path g c h =
    let w = g.Self.Family.WIDTH in
    let root = block g.Self.Family.form c.args.root.now in
    let n = c.args.n in
    let k = c.ilog2-below.result in
    let one = one_shl k 64 c.ilog2-below.ensures.bound in
    let small = path_small w root (g.met.Self.Family.valid c.args.root.now) n k h.inside h.low h.high in
    let wide = pow_mono {i = w - root.length} {j = 128} (omega (arith, g.met.Self.Family.narrow)) in
    let e : c.raised.result ≡ ((n - 2 ^ k) * 2 ^ (w - (root.length + k))) % 2 ^ 128 = cc in
    omega (arith, e, mod-eq_of_lt {n = (n - 2 ^ k) * 2 ^ (w - (root.length + k))} {m = 2 ^ 128} (omega arith), c.number.ensures.value, c.first.ensures)

pub overflow_sub-WIDTH-2 : goal.overflow_sub-WIDTH-2
overflow_sub-WIDTH-2 g c = omega (arith, (found g (goal.at.overflow_sub-WIDTH-2 g c).After-number).inside)

pub overflow_add-first : goal.overflow_add-first
overflow_add-first g c =
    let w = g.Self.Family.WIDTH in
    let h = found g (goal.at.overflow_add-first g c).After-number in
    let below = down_below w (block g.Self.Family.form c.args.root.now) (g.met.Self.Family.valid c.args.root.now) c.args.n c.ilog2-below.result h.inside h.low h.high in
    omega (arith, raised_path g (goal.at.overflow_add-first g c).After-raised h, below, pow_mono {i = w} {j = 128} g.met.Self.Family.narrow)

pub returns : goal.returns
returns g c =
    let w = g.Self.Family.WIDTH in
    let d = c.args.depth in
    let n = c.args.n in
    let k = c.ilog2-below.result in
    let root = block g.Self.Family.form c.args.root.now in
    let v = g.met.Self.Family.valid c.args.root.now in
    let h = found g (goal.at.returns g c).After-number in
    let down = block_down w root k n in
    let a : g.Self.Family.form.number c.address.result ≡ down.first =
    c.address.ensures ∙ ap (λ x. x % 2 ^ w) (raised_path g (goal.at.returns g c).After-raised h) ∙ mod-eq_of_lt {n = down.first} {m = 2 ^ w} (down_below w root v n k h.inside h.low h.high) in
    let kept : cleared w (root.length + k) down.first ≡ down.first = cleared_same w (root.length + k) down.first (down_clear w root v n k h.inside h.low h.high) in
    let b : block g.Self.Family.form c.enclosing.result ≡ down =
    c.enclosing.ensures ∙ block_same _ down.first _ (root.length + k) (cc) (omega (arith, h.inside)) in
    let fit : fits w root d ≡ true = grind (arith, nat_tests, v.within) in
    let yes : is_place w root d n ≡ true = grind (arith, nat_tests, fit, shifted_two d c.if-depth-gt12.false) in
    record {
      inside = λ j _ low high. b ∙ ap (λ x. block_down w root x n) (depth_one k j n h.low h.high low high);
      outside = λ no. absurd (both_ways _ no yes);
      back = λ _. ap (λ x. place w root d x) b ∙ place_down w root v n k h.inside h.low h.high d fit h.within;
    }
