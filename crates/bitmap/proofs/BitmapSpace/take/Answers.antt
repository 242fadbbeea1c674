use Rattle.std.proofs.Common.{sym, arith}
use Rattle.bitmap.proofs.Moves.{took, took_tidy}
use Rattle.bitmap.proofs.BitmapSpace.take.Goals as goal

pub invariant_of-self : goal.invariant_of-self
invariant_of-self c =
    let s = c.args.self.now in
    record {
      shallow = s.shallow;
      sized = λ live. omega (arith, s.sized live, c.mark.auto.words);
      tidy = λ live. took_tidy s.words.now c.mark.new.words c.in-Some.ensures.1 s.tidy (sym c.if-open.ensures) c.mark.ensures.bits;
    }

pub returns-in-Some-clause-after : goal.returns-in-Some-clause-after
returns-in-Some-clause-after c =
    let s = c.args.self.now in
    took s.words.now c.mark.new.words c.in-Some.ensures.1 s.tidy (sym c.if-open.ensures) c.mark.ensures.bits
