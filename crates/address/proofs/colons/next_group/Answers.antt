-- `next_group` finds the group that goes on, at once or behind a colon, or that none does.
use Rattle.std.proofs.Common.{◌≡◌, get_or, arith}
use Rattle.address.proofs.Taking.{one_colon, next_here, next_behind, none_behind, cases_weaker}
use Rattle.address.proofs.colons.next_group.Goals as goal

pub returns-in-0-default : goal.returns-in-0-default
returns-in-0-default c = rw c.in-0-default.is-0 (cases_weaker c.leading_group.result c.leading_group.ensures (λ none. none) (λ g h. next_here h.1 h.2))

pub returns-in_default-eq58 : goal.returns-in_default-eq58
returns-in_default-eq58 c =
    let colon : get_or c.args.text.now 0 0 ≡ 58 = grind arith in
    let e = one_colon c.args.text.now c.in_default-eq58.len_at_least colon in
    let some = c.in_default-eq58.is-0.1 in
    cases_weaker c.leading_group-in_default-eq58.result c.leading_group-in_default-eq58.ensures (none_behind e c.args.count some) (λ g h. next_behind e c.args.count some (next_here h.1 h.2))
