use Rattle.std.proofs.Common.{◌≡◌, ◌+◌, [], ◌∷◌, ◌++◌, get_or, take, vec_items}
use Rattle.std.proofs.lemmas.List.{take_more, take_all}
use Rattle.spaces.specs.declared.call.Call.TheVariants.{Take}
use Rattle.spaces.proofs.Runs.{ran_more, alike_more}
use Rattle.spaces.proofs.call.run.Goals as goal

pub loop-call-preserved : goal.loop-call-preserved
loop-call-preserved g c =
    let calls = c.args.calls.now in
    let i = c.loop-call.call-index in
    let inv = c.loop-call.invariant in
    let b = c.perform_both.result in
    let e = c.perform_both.ensures in
    let old = vec_items c.loop-call.answers in
    let pushed : vec_items c.push.new.self ≡ old ++ (b ∷ []) = c.in_ok-push.ensures.items in
    let more : take (i + 1) calls ≡ take i calls ++ (get_or calls i (Take 0) ∷ []) = take_more calls i (Take 0) c.loop-call-test.true in
    rw (more, pushed) (
      ran_more (take i calls) _ _ old _ _ inv.0 (get_or calls i (Take 0)) b _ _ e.one e.other,
      λ same. let t = inv.1 same in let r = e.alike t.1 in (alike_more old b t.0 r.0, r.1),
    )

pub returns : goal.returns
returns g c =
    let inv = c.loop-call.invariant in
    let all = take_all c.loop-call.call-index c.args.calls.now c.loop-call-test.false in
    record { ran = rw all at inv.0; alike = inv.1 }
