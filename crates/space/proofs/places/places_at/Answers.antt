use Rattle.std.proofs.Common.{◌≡◌, ℕ, ◌+◌, ◌-◌, ◌*◌, ◌^◌, ◌<◌, ap, ◌∙◌, arith}
use Rattle.std.proofs.lemmas.Nat.{shl_whole}
use Rattle.space.specs.Places.{depth_of}
use Rattle.space.proofs.Depths.{depth_bounds, place_within, pow_more}
use Rattle.space.proofs.places.places_at.Goals as goal

pub overflow_add-result : goal.overflow_add-result
overflow_add-result c = omega (arith, place_within 62 c.args.w (omega arith) (omega (arith, c.depth_of.ensures.value)))

pub returns : goal.returns
returns c =
    let w = c.args.w in
    let h = depth_of w in
    let e = c.depth_of.ensures.value in
    let lt = (depth_bounds w (omega arith)).1 in
    let p = pow_more (h + 1) in
    let size = ap (λ x. 2 ^ x) (let z : c.in_ok-down.down ≡ c.args.d - h = omega arith in z) in
    let whole = λ (x : ℕ) (below : x < 2 ^ (h + 1 + 1)). shl_whole x (h + 1 + 1) c.in_ok-down.down 64 below (omega arith) ∙ ap (λ y. x * y) size in
    (omega arith, omega arith, omega arith, whole w (omega arith), whole (w + 1) (omega arith))
