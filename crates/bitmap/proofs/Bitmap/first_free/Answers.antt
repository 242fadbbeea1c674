use Rattle.std.proofs.Common.{◌≡◌, ℕ, true, ◌+◌, ◌-◌, ◌*◌, ◌%◌, ◌^◌, ◌<◌, ◌≤◌, ⊎_elim, arith}
use Rattle.std.proofs.lemmas.Bool.{cases_lt}
use Rattle.std.proofs.lemmas.Nat.{one_shl}
use Rattle.bits.specs.Bit.{bit}
use Rattle.bitmap.proofs.Scans.{hit_clear}
use Rattle.bitmap.proofs.Search.{Run, run_at, up_less, up_past, clear_behind, skipped}
use Rattle.bitmap.proofs.Bitmap.first_free.Goals as goal
use Rattle.bitmap.proofs.Bitmap.first_free.Goals.{In-loop-n, After-div_ceil-n}

run : (c : In-loop-n) (i : ℕ) → c.args.places.start ≤ i → i < c.args.places.end → Run c.args.self.now.depth i (1 * 2 ^ (c.args.self.now.depth - c.args.d) % 2 ^ 64) (1 * 2 ^ c.args.self.now.depth % 2 ^ 64)
run c i lo hi =
    let t = c.args.self.now.depth in
    let le = c.args.self.now.shallow in
    let g = c.requires in
    run_at t c.args.d i _ _ (one_shl (t - c.args.d) 64 (omega arith)) (one_shl t 64 (omega arith)) g.deep (omega (arith, g.from)) (omega (arith, g.to))

pub overflow_sub-start : goal.overflow_sub-start
overflow_sub-start c = omega (arith, (run c c.loop-n.n c.loop-n.invariant.0 c.loop-n-test.true).from)

pub returns-in_default : goal.returns-in_default
returns-in_default c =
    let s = c.args.self.now in
    let j = c.loop-n.n in
    let r = run (goal.at.returns-in_default c).In-loop-n j c.loop-n.invariant.0 c.loop-n-test.true in
    record {
      from = c.loop-n.invariant.0;
      to = c.loop-n-test.true;
      free = hit_clear s.depth s.words.now j r.at (s.tidy c.requires.live) (λ u lo hi. c.in_default.ensures u (omega (arith, r.from)) (omega (arith, r.from, r.wide)));
      before = λ i lo lt. c.loop-n.invariant.1 i lo lt (omega (arith, c.loop-n-test.true));
    }

-- the marked units go on behind the first of them, and so the next place begins behind j
step : (c : After-div_ceil-n) → (c.in-Some.marked < c.unwrap_or-clear.result)
    × ((k : ℕ) → c.in-Some.marked ≤ k → k < c.unwrap_or-clear.result → bit c.args.self.now.words.now k ≡ true)
    × (c.loop-n.n < c.div_ceil-n.result)
step c =
    let t = c.args.self.now.depth in
    let s = 1 * 2 ^ (t - c.args.d) % 2 ^ 64 in
    let top = 1 * 2 ^ t % 2 ^ 64 in
    let j = c.loop-n.n in
    let r = run (goal.at.loop-n-smaller c).In-loop-n j c.loop-n.invariant.0 c.loop-n-test.true in
    let f = c.in-Some.ensures in
    let past = clear_behind c.args.self.now.words.now c.in-Some.marked top c.unwrap_or-clear.result c.first-in-loop-n.result (omega (arith, f.1, r.from, r.to)) f.2 c.first-in-loop-n.ensures c.unwrap_or-clear.ensures in
    (past.0, past.1, omega (arith, past.0, up_past (top + c.unwrap_or-clear.result) s j r.some (omega (arith, past.0, f.0, r.from))))

pub loop-n-smaller : goal.loop-n-smaller
loop-n-smaller c = omega (arith, (step c).2)

pub loop-n-preserved : goal.loop-n-preserved
loop-n-preserved c =
    let a = c.args.self.now in
    let t = a.depth in
    let s = 1 * 2 ^ (t - c.args.d) % 2 ^ 64 in
    let top = 1 * 2 ^ t % 2 ^ 64 in
    let j = c.loop-n.n in
    let z = c.unwrap_or-clear.result in
    let g = (goal.at.loop-n-preserved c).In-loop-n in
    let r = run g j c.loop-n.invariant.0 c.loop-n-test.true in
    let f = c.in-Some.ensures in
    let n = step c in (
      omega (arith, n.2, c.loop-n.invariant.0),
      λ i lo lt hi. ⊎_elim
          (λ b. c.loop-n.invariant.1 i lo b hi)
          (λ b. skipped t a.words.now j c.in-Some.marked z i s top (a.tidy c.requires.live) (run g i lo hi) b (omega (arith, f.0, r.from)) (omega (arith, f.1, r.from)) n.1 n.0 (omega (arith, up_less (top + z) s i r.some (omega arith))))
          (cases_lt i j),
    )
