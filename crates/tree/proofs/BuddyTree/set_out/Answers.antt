use Rattle.std.proofs.Common.{◌<◌, refl, ◌∙◌, arith}
use Rattle.std.proofs.lemmas.Bool.Decides.{nat_tests}
use Rattle.tree.proofs.Climb.{climb_from, climb_take, climb_give, climb_end, climb_outs}
use Rattle.tree.proofs.BuddyTree.set_out.Goals as goal
use Rattle.tree.proofs.BuddyTree.set_out.Goals.{then-out, else-out}

pub loop-a-init : goal.loop-a-init
loop-a-init c =
    let s = c.args.self.now in
    let r = c.requires in
    climb_from s.depth c.args.n c.args.out s.bytes.now r.place (s.sized r.live) (s.tidy r.live) r.live r.apart _ (omega (arith, c.from.ensures))

pub loop-a-preserved : goal.loop-a-preserved
loop-a-preserved c =
    let w = c.loop-a.invariant in
    let pos : 0 < c.loop-a.a = omega arith in
    elim c.if-out.branch [
      | then-out t ↦ climb_take c.loop-a.a _ _ _ w pos t.b-is (omega arith) t.if-out.true (omega arith)
      | else-out t ↦ climb_give c.loop-a.a _ _ _ _ _ w pos t.b-is (omega arith) (omega arith) t.above-v.ensures (omega arith)
    ]

pub invariant_of-self : goal.invariant_of-self
invariant_of-self c =
    let s = c.args.self.now in
    let w = c.loop-a.invariant in
    record {
      shallow = s.shallow;
      sized = λ live. w.long;
      tidy = λ live. climb_end c.loop-a.a w (omega arith);
      first = λ live. w.beyond 0 refl ∙ s.first live;
    }

pub returns-clause-outs : goal.returns-clause-outs
returns-clause-outs c = climb_outs c.requires.live c.requires.place c.loop-a.invariant

pub returns-clause-beyond : goal.returns-clause-beyond
returns-clause-beyond c = λ k le. c.loop-a.invariant.beyond k (grind (arith, nat_tests))
