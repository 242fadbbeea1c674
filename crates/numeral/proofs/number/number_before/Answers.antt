-- The byte behind a number is at the number's end, since no digit follows it there.
use Rattle.std.proofs.Common.{length, get_or, ap, arith}
use Rattle.std.proofs.lemmas.Bool.{ltb-true}
use Rattle.numeral.proofs.Numerals.{begins_one}
use Rattle.numeral.proofs.number.number_before.Goals as goal
use Rattle.numeral.proofs.number.number_before.Goals.{in_default-via-then-number-lt1, in_default-via-in-len1-up+else-first-stop}

pub returns-in_default : goal.returns-in_default
returns-in_default c = (
  c.alone.ensures,
  λ n rest s.
      let e = (begins_one (omega arith) c.in_ok-number.ensures s).1 in
      elim c.in_default.branch [
        | in_default-via-then-number-lt1 w ↦ omega (arith, ltb-true, ap length e)
        | in_default-via-in-len1-up+else-first-stop w ↦ omega (arith, ap (λ l. get_or l 0 0) e)
      ],
)
