-- `value` adds up at most four digits, which write less than 65536.
use Rattle.std.proofs.Common.{take, arith, length-take}
use Rattle.std.proofs.lemmas.Int.Digits.{digits_value_more, digits_more}
use Rattle.numeral.proofs.Hexes.{hex_at, few_small}
use Rattle.numeral.proofs.group.value.Goals as goal

pub overflow_mul-g : goal.overflow_mul-g
overflow_mul-g c =
    let l = c.loop-d in
    omega (arith, few_small 3 (take l.d-index c.args.ds.now) l.invariant.each (simp length-take (omega arith)))

pub overflow_add-g : goal.overflow_add-g
overflow_add-g c =
    let l = c.loop-d in
    omega (arith, few_small 3 (take l.d-index c.args.ds.now) l.invariant.each (simp length-take (omega arith)), c.in_ok-g.ensures.value)

pub returns-in_err-g : goal.returns-in_err-g
returns-in_err-g c = rw c.from_residual.ensures (λ g h. grind (arith, hex_at c.args.ds.now c.loop-d.d-index h.digits.1 c.loop-d-test.true))

pub loop-d-preserved : goal.loop-d-preserved
loop-d-preserved c =
    let ds = c.args.ds.now in
    let i = c.loop-d.d-index in
    let d = rw c.from.ensures at c.in_ok-g.ensures.value in
    record { each = digits_more 16 ds i c.loop-d-test.true c.loop-d.invariant.each d.0; number = omega (arith, digits_value_more 16 ds i c.loop-d-test.true) }
