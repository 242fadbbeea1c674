use Rattle.std.proofs.Common.{decimal, arith}
use Rattle.std.proofs.lemmas.Result.{err_from_is_err_and}
use Rattle.numeral.proofs.Numerals.{no_digit}
use Rattle.spaces.proofs.Spelling.{two, behind}
use Rattle.spaces.proofs.read.seek.Goals as goal

pub returns-in_err-depth : goal.returns-in_err-depth
returns-in_err-depth c =
    let p = err_from_is_err_and c.from_residual-in_err-depth.result c.from_residual-in_err-depth.ensures.1 in
    let a = c.in_ok-within.ensures in
    rw (p.1, p.2) (
      c.in_err-depth.ensures.0,
      λ x s.
          let t = two c.args.numbers.now _ _ a.small a.spelt x s in
          c.in_err-depth.ensures.1 t.d _ (record { small = t.small.0; ends = no_digit 44 (decimal t.f) (omega arith); spelt = t.spelt }),
    )

pub returns-in_err-from : goal.returns-in_err-from
returns-in_err-from c =
    let p = err_from_is_err_and c.from_residual-in_err-from.result c.from_residual-in_err-from.ensures.1 in
    let a = c.in_ok-within.ensures in
    let b = c.in_ok-depth.ensures in
    rw (p.1, p.2) (
      c.in_err-from.ensures.0,
      λ x s.
          let t = two c.args.numbers.now _ _ a.small a.spelt x s in
          c.in_err-from.ensures.1 t.f t.small.1 (behind _ _ t.d b.small t.small.0 b.spelt t.spelt),
    )

pub returns : goal.returns
returns c =
    let a = c.in_ok-within.ensures in
    let b = c.in_ok-depth.ensures in
    let e = c.in_ok-from.ensures in
    let i = a.spelt in
    let j = b.spelt in
    let k = e.1 in
    record { small = (omega (arith, a.small, b.small), omega (arith, a.small, b.small), e.0); spelt = cc }
