use Rattle.std.proofs.Common.{◌≡◌, ℕ, ◌+◌, ◌^◌, ◌≤◌, true, length, sym, ◌∙◌, arith, rules, length-take}
use Rattle.std.proofs.lemmas.Nat.{one_shl, pow_pos}
use Rattle.std.proofs.lemmas.Bool.{cond-true}
use Rattle.tree.specs.Tree.{room}
use Rattle.tree.proofs.Made.{wiped_clear, tidy_wiped, fresh_wiped, room-true}
use Rattle.tree.proofs.BuddyTree.new.Goals as goal

pub invariant_of-result-2-clause-tidy : goal.invariant_of-result-2-clause-tidy
invariant_of-result-2-clause-tidy c = λ live.
    let small : c.args.depth ≤ 12 = search rules in
    let n = one_shl (c.args.depth + 1) 64 (omega arith) in
    tidy_wiped c.args.depth _ (wiped_clear (2 ^ (c.args.depth + 1)) _ c.fill.new.self _ (c.fill.ensures.after (λ y e. e)) (omega (arith, length-take {A = ℕ})))

pub invariant_of-result-2-clause-first : goal.invariant_of-result-2-clause-first
invariant_of-result-2-clause-first c = λ live.
    let small : c.args.depth ≤ 12 = search rules in
    let n = one_shl (c.args.depth + 1) 64 (omega arith) in
    let p = pow_pos (c.args.depth + 1) in
    wiped_clear 1 _ c.fill.new.self _ (c.fill.ensures.after (λ y e. e)) (omega (arith, length-take {A = ℕ})) 0 (omega arith)

pub returns-clause-meaning : goal.returns-clause-meaning
returns-clause-meaning c =
    let d = c.args.depth in
    let live : 1 ≤ d = search rules in
    let small : d ≤ 12 = search rules in
    let n = one_shl (d + 1) 64 (omega arith) in
    let has : room d (length c.args.bytes.now) ≡ true = room-true d _ live small (omega arith) in
    fresh_wiped d _ (wiped_clear (2 ^ (d + 1)) _ c.fill.new.self _ (c.fill.ensures.after (λ y e. e)) (omega (arith, length-take {A = ℕ}))) (omega arith) ∙ sym (cond-true _ _ _ has)
