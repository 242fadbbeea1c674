-- `leading_number` takes the digits that begin the text, and refuses where they write no number.
use Rattle.std.proofs.Common.{◌≡◌, Some, None, arith}
use Rattle.std.proofs.lemmas.List.{take_all}
use Rattle.std.proofs.lemmas.Option.{MatchOption-at_some, MatchOption-at_none}
use Rattle.std.proofs.lemmas.Result.{err_from_is_err_and}
use Rattle.fault.specs.Causes.{alone}
use Rattle.fault.specs.declared.Cause.TheVariants.{Malformed}
use Rattle.numeral.proofs.Numerals.{digits_front, begins_front, begins_digits}
use Rattle.numeral.proofs.number.leading_number.Goals as goal

pub value-requires : goal.value-requires
value-requires c = rw (c.split_at.ensures.front, c.count_digits.ensures.count) (digits_front c.args.text.now)

pub returns-in_err-value : goal.returns-in_err-value
returns-in_err-value c =
    let p = err_from_is_err_and c.from_residual.result c.from_residual.ensures.1 in
    let none : c.value.result ≡ None = grind arith in
    let h = MatchOption-at_none _ _ none c.value.ensures in
    let v = rw (c.split_at.ensures.front, c.count_digits.ensures.count) at h in
    let f : c.in_err-value.field-0.0 ≡ alone Malformed = grind arith in
    rw (p.1, p.2) (f, λ n rest b. v n b.small (begins_digits (omega arith) b))

pub returns : goal.returns
returns c =
    let some : c.value.result ≡ Some c.in_ok-value.value = grind arith in
    let h = MatchOption-at_some _ _ c.in_ok-value.value some c.value.ensures in
    let v = rw (c.split_at.ensures.front, c.count_digits.ensures.count) at h in
    begins_front c.args.limit c.args.text.now _ c.in_ok-value.value v.0 v.1 (grind (arith, take_all))
