use Rattle.std.proofs.Common.{sym, ◌∙◌}
use Rattle.tree.proofs.Hits.{busy_set, busy_none, within_parts}
use Rattle.tree.proofs.BuddyTreeSpace.busy.Goals as goal

pub returns-then-has : goal.returns-then-has
returns-then-has c =
    let s = c.args.self.now in
    let p = within_parts s.depth c.args.w (sym c.if-has.ensures) in
    busy_set s.depth s.bytes.now p.0 (s.tidy p.0) c.args.w p.1 p.2

pub returns-else-has : goal.returns-else-has
returns-else-has c =
    let s = c.args.self.now in
    c.if-has.false ∙ busy_none s.depth s.bytes.now c.args.w (sym c.if-has.ensures)
