use Rattle.std.proofs.Common.{◌≡◌, ℕ, ◌+◌, ◌-◌, ◌*◌, ◌^◌, ◌≤◌, true, ap, ◌∙◌, arith}
use Rattle.std.proofs.lemmas.Bool.Decides.{nat_tests}
use Rattle.std.proofs.lemmas.Nat.{one_shl}
use Rattle.space.specs.Places.{is_place, depth_of, size}
use Rattle.space.proofs.Depths.{depth_le}
use Rattle.space.proofs.Ranges.{size_pos}
use Rattle.bitmap.specs.Map.{Spans}
use Rattle.bitmap.specs.Whole.{span}
use Rattle.bitmap.proofs.Bitmap.units.Goals as goal

-- s and top are the sizes of n and of the whole
counted : (d n h s top : ℕ) → is_place d n ≡ true → h ≡ depth_of n → s ≡ 2 ^ (d - h) → top ≡ 2 ^ d → (top ≤ n * s) × Spans d n (n * s - top) (n * s - top + s)
counted d n h s top at deep wide all =
    let w : s ≡ size d n = wide ∙ ap (λ x. 2 ^ (d - x)) deep in
    let m = ap (λ x. n * x) w in
    let r = span d n at in
    let t = size_pos d n in
    (omega arith, record { from = omega arith; to = omega arith; some = omega arith; inside = omega arith })

pub overflow_sub-size : goal.overflow_sub-size
overflow_sub-size c = let at : is_place c.args.self.now.depth c.args.n ≡ true = grind arith in omega (arith, depth_le c.args.self.now.depth c.args.n at)

pub overflow_sub-start : goal.overflow_sub-start
overflow_sub-start c =
    let d = c.args.self.now.depth in
    let h = c.depth_of.result in
    let le = c.args.self.now.shallow in
    (counted d c.args.n h _ _ (grind arith) c.depth_of.ensures.value (one_shl (d - h) 64 (omega arith)) (one_shl d 64 (omega arith))).0

pub returns : goal.returns
returns c =
    let d = c.args.self.now.depth in
    let h = c.depth_of.result in
    let le = c.args.self.now.shallow in
    let at : is_place d c.args.n ≡ true = grind arith in
    (grind (arith, nat_tests), (counted d c.args.n h _ _ at c.depth_of.ensures.value (one_shl (d - h) 64 (omega arith)) (one_shl d 64 (omega arith))).1)
