-- `Draft::spell` writes the digits of the number's front, and then the last.
use Rattle.std.proofs.Common.{◌≡◌, ◌/◌, ◌%◌, false, [], ◌∷◌, ◌∙◌, arith}
use Rattle.std.specs.Char.{digit_char}
use Rattle.std.specs.Fmt.{digits}
use Rattle.numeral.proofs.Spelling.{digits_one, digits_step}
use Rattle.numeral.proofs.Texts.{then}
use Rattle.numeral.proofs.draft.Draft.+spell.Goals as goal
use Rattle.numeral.proofs.draft.Draft.+spell.Goals.{then-n, else-n}

pub returns : goal.returns
returns g t c =
    let n = c.args.n in
    let base = g.row.BASE in
    let digit : c.unwrap-digit.result ≡ digit_char (n % base) = grind arith in
    let d = rw digit at c.push.ensures in
    elim c.if-n.branch [
      | then-n w ↦ rw (digits_step base c.requires.low false n w.if-n.true (omega arith)) (then 43 c.args.self.now (digits base false (n / base)) (digit_char (n % base) ∷ []) (w.self-is ∙ w.spell.ensures) d)
      | else-n w ↦ rw (digits_one base c.requires.low false n w.if-n.false) (rw w.self-is at d)
    ]
