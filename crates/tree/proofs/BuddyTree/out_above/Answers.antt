use Rattle.std.proofs.Common.{◌≡◌, ◌/◌, ◌^◌, arith, rules, tests}
use Rattle.std.proofs.lemmas.Iterator.{first_from_Range}
use Rattle.tree.specs.Tree.{byte}
use Rattle.tree.proofs.BuddyTree.out_above.Goals as goal

pub returns : goal.returns
returns c =
    let b = c.args.self.now.bytes.now in
    let n = c.args.n in
    let t = first_from_Range _ _ _ c.find.result (λ k. byte b (n / 2 ^ k) ≡ 1) (λ k. byte b (n / 2 ^ k) ≡ 1 → ⊥)
    c.find.ensures.ran (λ x q k. search (rules, tests)) (λ x q k. search (rules, tests)) in
    grind arith
