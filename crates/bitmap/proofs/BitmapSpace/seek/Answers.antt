use Rattle.std.proofs.Common.{⊎_elim, add-mul, arith}
use Rattle.std.proofs.lemmas.Bool.{ltb-true, lt-ltb}
use Rattle.space.specs.Places.{size}
use Rattle.space.proofs.Depths.{place_pos}
use Rattle.space.proofs.Opening.{no_answer, answer_from, too_deep, open_parts}
use Rattle.space.proofs.Ranges.{range_within, answer_place, answer_high, found}
use Rattle.bitmap.specs.Map.{map_meaning}
use Rattle.bitmap.proofs.BitmapSpace.seek.Goals as goal
use Rattle.bitmap.proofs.BitmapSpace.seek.Goals.{then-self-eq0-via-then-self-eq0, then-self-eq0-via-else-self-eq0+then-d-self}

pub returns-then-self-eq0 : goal.returns-then-self-eq0
returns-then-self-eq0 c =
    let s = c.args.self.now in
    let m = map_meaning s.depth s.words.now in
    λ k. elim c.then-self-eq0.branch [
      | then-self-eq0-via-then-self-eq0 w ↦ no_answer m c.args.w c.args.d c.args.f k (λ a. let p = ltb-true 0 s.depth (open_parts m k a.is).allowed in omega (arith, w.if-self-eq0.true))
      | then-self-eq0-via-else-self-eq0+then-d-self w ↦ too_deep m c.args.w c.args.d c.args.f k (omega (arith, w.if-d-self.true))
    ]

pub returns-in_err-places : goal.returns-in_err-places
returns-in_err-places c =
    let s = c.args.self.now in
    let m = map_meaning s.depth s.words.now in
    let w = c.args.w in
    let d = c.args.d in
    let f = c.args.f in
    rw c.from_residual.ensures (λ k. ⊎_elim
    (λ z. no_answer m w d f k (λ a. let p = place_pos s.depth w (answer_place m w d f k (answer_from m w d f k a)) in omega arith))
    (λ h. ⊎_elim (λ high. answer_high m w d f k high) (λ deep. let le = s.shallow in absurd (omega arith)) h)
    c.in_err-places.ensures)

pub first_free-requires-clause-from : goal.first_free-requires-clause-from
first_free-requires-clause-from c =
    let p = c.in_ok-places.ensures in
    omega (arith, (range_within c.args.w c.args.d p.0 p.1).0, p.3)

pub first_free-requires-clause-to : goal.first_free-requires-clause-to
first_free-requires-clause-to c =
    let p = c.in_ok-places.ensures in
    omega (arith, (range_within c.args.w c.args.d p.0 p.1).1, add-mul c.args.w 1 (size c.args.d c.args.w), p.4)

pub returns : goal.returns
returns c =
    let s = c.args.self.now in
    let w = c.args.w in
    let d = c.args.d in
    let p = c.in_ok-places.ensures in
    let start = p.3 in
    found (map_meaning s.depth s.words.now) w d c.args.f _ _ c.first_free.result c.first_free.ensures
    (λ k. lt-ltb 0 s.depth (omega arith)) p.0 p.1 (omega arith) (omega arith) (omega arith) (λ j a b. omega arith) (omega (arith, add-mul w 1 (size d w), p.4))
