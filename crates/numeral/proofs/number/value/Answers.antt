-- `value` gives the number whose decimal digits stand there, or says that there is none up to the limit.
use Rattle.std.proofs.Common.{◌≡◌, ℕ, ◌^◌, ◌<◌, ◌≤◌, List, Some, None, decimal, Option, sym, ap, ◌∙◌, arith, MatchOption}
use Rattle.numeral.specs.Numbers.{Digits, Lean, value_on}
use Rattle.numeral.proofs.Numerals.{decimal_lean, decimal_value, value_decimal}
use Rattle.numeral.proofs.number.value.Goals as goal

-- from the number that the digits write
named : (ds : List ℕ) (limit : ℕ) → limit < 2 ^ 64 → Digits ds → Lean ds → (o : Option ℕ) → MatchOption o (limit < value_on 0 ds) (λ n. (n ≡ value_on 0 ds) × (n ≤ limit)) → MatchOption o ((n : ℕ) → n ≤ limit → ds ≡ decimal n → ⊥) (λ n. (n ≤ limit) × (ds ≡ decimal n))
named ds limit small d lean None h = λ n l e. omega (arith, ap (value_on 0) e, value_decimal n (omega arith))
named ds limit small d lean (Some n) h = (h.1, sym (ap decimal h.0 ∙ decimal_value ds d lean (omega arith)))

pub returns-then-is_lean : goal.returns-then-is_lean
returns-then-is_lean c = named c.args.ds.now c.args.limit (omega arith) c.requires (c.if-is_lean.ensures.yes tt) c.sum.result c.sum.ensures

pub returns-else-is_lean : goal.returns-else-is_lean
returns-else-is_lean c = λ n l e. c.if-is_lean.ensures.no (rw e (decimal_lean n (omega arith)))
