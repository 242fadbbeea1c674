-- `leading_group` reads all the digits that stand there, or says that they are no group.
use Rattle.numeral.proofs.Hexes.{no_start}
use Rattle.numeral.proofs.group.leading_group.Goals as goal

pub returns-in_err-value : goal.returns-in_err-value
returns-in_err-value c = rw c.from_residual.ensures (no_start c.args.text.now (rw (c.split_at.ensures.front, c.count_digits.ensures.count) at c.in_err-value.ensures))
