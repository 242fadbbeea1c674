use Rattle.std.proofs.Common.{◌*◌, take, ap, ◌∙◌, arith}
use Rattle.bitmap.specs.Map.{share}
use Rattle.bitmap.proofs.Drawn.{all_drawn}
use Rattle.bitmap.proofs.Bitmap.words.Goals as goal

pub returns-clause-drawn : goal.returns-clause-drawn
returns-clause-drawn c =
    let s = c.args.self.now in
    λ live. ap (take (2 * share s.depth)) c.numbers.ensures.same ∙ all_drawn s.depth s.words.now (s.tidy live) (s.sized live) (λ k. omega (arith, c.numbers.ensures.fits k))
