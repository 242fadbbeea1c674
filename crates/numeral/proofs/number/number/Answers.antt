-- `number` reads a text of digits, and refuses one that is not all digits.
use Rattle.std.proofs.Common.{[], length, decimal, sym, refl, ap, ◌∙◌, arith}
use Rattle.std.proofs.lemmas.List.{append-nil}
use Rattle.std.proofs.lemmas.Result.{err_from_is_err_and}
use Rattle.numeral.proofs.Numerals.{begins_one}
use Rattle.numeral.proofs.number.number.Goals as goal

pub returns-in_err-value : goal.returns-in_err-value
returns-in_err-value c =
    let p = err_from_is_err_and c.from_residual.result c.from_residual.ensures.1 in
    rw (p.1, p.2) (c.in_err-value.ensures.0, λ n small e. c.in_err-value.ensures.1 n [] (record { small = omega arith; ends = refl; spelt = e ∙ sym (append-nil (decimal n)) }))

pub returns-in_default : goal.returns-in_default
returns-in_default c = (
  c.alone.ensures,
  λ n small e. omega (arith, c.in_default.len_at_least, ap length (begins_one (omega arith) c.in_ok-value.ensures (record { small = omega arith; ends = refl; spelt = e ∙ sym (append-nil (decimal n)) })).1),
)
