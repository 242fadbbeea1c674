-- `sum` gives what the digits write, or stops above the limit, which more digits do not bring back.
use Rattle.std.proofs.Common.{◌≡◌, ◌+◌, ◌-◌, ◌*◌, get_or, drop, arith}
use Rattle.std.proofs.lemmas.List.{at_drop_more}
use Rattle.numeral.specs.Numbers.{value_on}
use Rattle.numeral.proofs.Numerals.{value_on_ge}
use Rattle.numeral.proofs.number.sum.Goals as goal

pub returns-then-n-most : goal.returns-then-n-most
returns-then-n-most c =
    let l = c.loop-d in
    let s = c.args.ds.now in
    let n = l.n * 10 + (get_or s l.d-index 0 - 48) in
    let step : value_on l.n (drop l.d-index s) ≡ value_on n (drop (l.d-index + 1) s) = at_drop_more (value_on l.n) s l.d-index 0 c.loop-d-test.true in
    omega (arith, value_on_ge n (drop (l.d-index + 1) s))
