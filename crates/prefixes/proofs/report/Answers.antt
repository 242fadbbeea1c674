-- The answer's line is what was added.
use Rattle.std.proofs.Common.{◌++◌, Ok, Err, vec_items, refl, ap, ◌∙◌}
use Rattle.prefixes.specs.Printing.{printed}
use Rattle.prefixes.proofs.report.Goals as goal

pub returns-in_ok-add_text-in-Ok : goal.returns-in_ok-add_text-in-Ok
returns-in_ok-add_text-in-Ok c = (
  printed c.args.number c.answer.new.memory (Ok c.in-Ok.count),
  record { memory = c.answer.new.memory; answer = Ok c.in-Ok.count; answers = c.in-Ok.ensures.cases; text = refl },
  c.in_ok-add_text-in-Ok.ensures,
)

pub returns-in_ok-extend_from_slice-in-Err : goal.returns-in_ok-extend_from_slice-in-Err
returns-in_ok-extend_from_slice-in-Err c = (
  printed c.args.number c.answer.new.memory (Err c.in-Err.fault),
  record { memory = c.answer.new.memory; answer = Err c.in-Err.fault; answers = c.in-Err.ensures.cases; text = refl },
  c.in_ok-extend_from_slice-in-Err.ensures.items ∙ ap (λ l. vec_items c.args.out.now ++ l) (c.as_bytes.ensures.value ∙ c.in_ok-fault_line-in-Err.ensures),
)
