-- Line after line, until nothing of the input is left.
use Rattle.std.proofs.Common.{◌≡◌, ℕ, inl, inr, [], ◌∷◌, ◌++◌, vec_items, refl, ap, subst, append_assoc, arith, rules, tests, eqb, length}
use Rattle.std.specs.List.{IsFirstMatchOrLen}
use Rattle.std.proofs.lemmas.Fn.{always_returns_same}
use Rattle.std.proofs.lemmas.List.{append-nil, length-append, nil_from_length}
use Rattle.std.proofs.lemmas.Bool.Decides.{Decides-eqb}
use Rattle.std.proofs.lemmas.Slice.Eq.{strip_suffix_is}
use Rattle.prefixes.specs.Printing.{Lines, none}
use Rattle.prefixes.proofs.Feeds.{piece_more}
use Rattle.prefixes.proofs.reports.Goals as goal

pub loop-number-preserved : goal.loop-number-preserved
loop-number-preserved c =
    let was = c.loop-number.number-iterator in
    let steps = c.in-Some.ensures.steps in
    let piece = c.in-Some.line in
    let behind = c.next.new.self.b.rest.now in
    let r = c.in_ok-report.ensures in
    let is_feed = λ (b : ℕ). eqb b 10 in
    let first : IsFirstMatchOrLen is_feed was.b.rest.now steps.1.1.0 = (steps.1.1.2 is_feed (always_returns_same _ (λ a r. r ≡ is_feed a.0.now) _ (λ a r q k. search (rules, tests)))).1 in
    let stripped = strip_suffix_is Decides-eqb piece.now (10 ∷ []) c.strip_suffix.result c.strip_suffix.ensures.cases in (
      omega (arith, c.loop-number.invariant.0, steps.0.0, steps.0.1, ap length steps.1.0, length-append piece.now behind, steps.1.1.1, steps.1.2),
      λ others l.
          let here = piece_more was.b.rest.now behind piece steps.1.1.0 c.in-Some.number c.strip_suffix.result r.0 others steps.1.0 steps.1.1.1 first steps.1.2 stripped (rw c.unwrap_or-line.ensures at r.1) (rw steps.0.1 at l) in
          rw (r.2, append_assoc) (c.loop-number.invariant.1 (r.0 ++ others) (rw steps.0.0 at here)),
    )

pub returns : goal.returns
returns c =
    let was = c.loop-number.number-iterator in
    let ended : length was.b.rest.now ≡ 0 = elim c.in-None.ensures.steps [ inl w ↦ absurd (omega (arith, c.loop-number.invariant.0, w.1.0)) | inr w ↦ w.1.0 ] in
    let done = none was.a.start was.b.rest.now [] (nil_from_length was.b.rest.now ended) refl in
    subst (λ t. Lines 1 c.args.input.now t) (append-nil (vec_items c.loop-number.out)) (c.loop-number.invariant.1 [] done)
