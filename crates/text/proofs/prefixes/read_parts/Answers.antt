-- What stands before and behind the last slash decides, and nothing else.
use Rattle.std.proofs.Common.{◌+◌, ◌∙◌}
use Rattle.std.proofs.lemmas.List.{take_rest}
use Rattle.std.proofs.lemmas.Result.{err_from_is_err_and}
use Rattle.text.proofs.Spelling.{has_slash, parts_one}
use Rattle.text.proofs.prefixes.read_parts.Goals as goal

pub returns-in_default : goal.returns-in_default
returns-in_default g c = (c.alone.ensures, λ n l t. has_slash _ _ n l t c.in_default.ensures)

pub returns-in_err-length : goal.returns-in_err-length
returns-in_err-length g c =
    let text = c.args.text.now in
    let cut = c.in-Some.ensures in
    let k = c.in_err-length.ensures in
    let p = err_from_is_err_and c.from_residual.result c.from_residual.ensures.1 in
    rw (p.1, p.2) (k.0, λ n l t. k.1 l t.small (take_rest text (c.in-Some.slash + 1) ∙ (parts_one _ text _ _ cut.2 cut.3 n l t).1))

pub returns-in_err-read_address : goal.returns-in_err-read_address
returns-in_err-read_address g c =
    let cut = c.in-Some.ensures in
    let k = c.in_err-read_address.ensures in
    let p = err_from_is_err_and c.from_residual-in_err-read_address.result c.from_residual-in_err-read_address.ensures.1 in
    rw (p.1, p.2) (k.0, λ n l t. k.2 n (parts_one _ c.args.text.now _ _ cut.2 cut.3 n l t).0)
