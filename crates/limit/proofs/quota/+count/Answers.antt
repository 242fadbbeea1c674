use Rattle.std.proofs.Common.{◌≡◌, suc, ◌-◌, sym, ap, ◌∙◌, arith}
use native.Mathlib.Nat.{two-pow-succ}
use Rattle.std.proofs.lemmas.Nat.{one_shl}
use Rattle.limit.specs.Walk.{sum_under, units_at}
use Rattle.limit.proofs.Walking.{units_whole, units_idle, under_step, none_at, children_fit}
use Rattle.limit.proofs.quota.+count.Goals as goal
use Rattle.limit.proofs.quota.+count.Goals.{then-h-eq0-via-then-h-eq0, then-h-eq0-via-else-h-eq0+then-not-busy}

pub returns-then-out : goal.returns-then-out
returns-then-out g t c =
    let m = g.S.Space.meaning c.args.space.now in
    let s = g.met.S.Space.sound c.args.space.now in
    let e = one_shl c.args.h 64 (omega (arith, s.shallow)) in
    record { value = omega (arith, e, units_whole m s c.args.h c.args.n (omega arith) (sym c.if-out.ensures) c.requires.height); bound = omega (arith, e) }

pub returns-then-h-eq0 : goal.returns-then-h-eq0
unfolding sum_under
returns-then-h-eq0 g t c =
    let m = g.S.Space.meaning c.args.space.now in
    let f = units_at m.depth m.out in
    let none : sum_under c.args.h f c.args.n ≡ 0 =
    elim c.then-h-eq0.branch [
      | then-h-eq0-via-then-h-eq0 w ↦ ap (λ h. sum_under h f c.args.n) w.if-h-eq0.true ∙ none_at m.depth m.out c.args.n (sym c.if-out.ensures)
      | then-h-eq0-via-else-h-eq0+then-not-busy w ↦ units_idle m (g.met.S.Space.sound c.args.space.now) c.args.h c.args.n (omega arith) (sym w.if-not-busy.ensures)
    ]
    in
    record { value = sym none; bound = omega arith }

pub count-requires : goal.count-requires
count-requires g t c κs within =
    let f = children_fit c.args.n (g.S.Space.meaning c.args.space.now).depth c.args.h (omega arith) (omega arith) c.requires.height (g.met.S.Space.sound c.args.space.now).shallow in
    (omega (arith, c.decreases), (within, (omega arith, (omega arith, omega (arith, f.1)))))

pub count-requires-2 : goal.count-requires-2
count-requires-2 g t c κs within =
    let f = children_fit c.args.n (g.S.Space.meaning c.args.space.now).depth c.args.h (omega arith) (omega arith) c.requires.height (g.met.S.Space.sound c.args.space.now).shallow in
    (omega (arith, c.decreases), (within, (omega arith, (omega (arith, f.0), omega (arith, f.2)))))

pub returns : goal.returns
returns g t c =
    let m = g.S.Space.meaning c.args.space.now in
    let f = units_at m.depth m.out in
    let step = under_step c.args.h f c.args.n (omega arith) in
    let none = none_at m.depth m.out c.args.n (sym c.if-out.ensures) in
    let e : suc (c.args.h - 1) ≡ c.args.h = omega arith in
    let p = rw e at (two-pow-succ (c.args.h - 1)) in
    record { value = omega (arith, step, none, c.count.ensures.value, c.count-2.ensures.value); bound = omega (arith, p, c.count.ensures.bound, c.count-2.ensures.bound) }
