use Rattle.std.proofs.Common.{◌+◌, ◌≤◌, sym, arith, pow_mono}
use Rattle.std.proofs.lemmas.Bool.{lt-ltb, ltb-true, false_from_ne_true}
use Rattle.std.proofs.lemmas.Bool.Decides.{nat_tests}
use Rattle.space.specs.Meaning.{answers}
use Rattle.space.proofs.Opening.{open_parts, answer_parts, too_deep}
use Rattle.space.proofs.Ranges.{range_within, answer_place, answer_high, found}
use Rattle.tree.specs.Tree.{tree_meaning}
use Rattle.tree.proofs.Hits.{within_parts}
use Rattle.tree.proofs.BuddyTreeSpace.seek.Goals as goal

pub returns-then-not-has : goal.returns-then-not-has
returns-then-not-has c = λ k. false_from_ne_true (answers (tree_meaning c.args.self.now.depth c.args.self.now.bytes.now) c.args.w c.args.d c.args.f k) (λ e.
    let s = c.args.self.now in
    let m = tree_meaning s.depth s.bytes.now in
    let place = answer_place m c.args.w c.args.d c.args.f k e in
    let deep = too_deep m c.args.w c.args.d c.args.f k in
    let live = ltb-true 0 s.depth (open_parts m k (answer_parts m c.args.w c.args.d c.args.f k e).is).allowed in
    grind (arith, nat_tests))

pub returns-in_err-places : goal.returns-in_err-places
returns-in_err-places c =
    let s = c.args.self.now in
    let m = tree_meaning s.depth s.bytes.now in
    let pos = (within_parts s.depth c.args.w (sym c.if-not-has.ensures)).1 in
    rw c.from_residual.ensures (λ k. let high = answer_high m c.args.w c.args.d c.args.f k in grind (arith, c.in_err-places.ensures, s.shallow))

pub first_free-requires-clause-below : goal.first_free-requires-clause-below
first_free-requires-clause-below c =
    let top : c.args.d + 1 ≤ c.args.self.now.depth + 1 = omega arith in
    let p = c.in_ok-places.ensures in
    omega (arith, (range_within c.args.w c.args.d p.0 p.1).1, p.3, pow_mono top)

pub returns : goal.returns
returns c =
    let s = c.args.self.now in
    let p = c.in_ok-places.ensures in
    found (tree_meaning s.depth s.bytes.now) c.args.w c.args.d c.args.f _ _ c.first_free.result c.first_free.ensures
    (λ k. lt-ltb 0 s.depth (within_parts s.depth c.args.w (sym c.if-not-has.ensures)).0) p.0 p.1 (omega arith) (omega arith) (omega arith) (λ j a b. omega arith) (omega arith)
