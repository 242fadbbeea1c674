-- `leftmost_run` ends its run where the zero groups end, and there is none where no two stand.
use Rattle.std.proofs.Common.{◌≡◌, ℕ, ◌+◌, ◌-◌, ◌≤◌, eqb, List, length, take, drop, sym, ap, ◌∙◌, arith, length-drop}
use Rattle.std.proofs.lemmas.List.{take_rest}
use Rattle.std.proofs.lemmas.List.Sums.{prefix_len-le-length}
use Rattle.address.specs.Canonical.{zeros}
use Rattle.address.proofs.Runs.{run_at, run_nowhere}
use Rattle.address.proofs.zeros.leftmost_run.Goals as goal

-- n zero groups stand from i on, where the run starts
counted : (gs : List ℕ) (i s n : ℕ) → n ≡ zeros (take (8 - i) (drop i gs)) → i ≡ s → length gs ≡ 8 → s ≤ 8 → (n ≡ zeros (drop s gs)) × (s + n ≤ 8)
counted gs i s n e same eight here =
    let z : n ≡ zeros (drop i gs) = e ∙ ap (λ k. zeros (take (k - i) (drop i gs))) (sym eight) ∙ ap zeros (take_rest gs i) in
    (z ∙ ap (λ k. zeros (drop k gs)) same, omega (arith, prefix_len-le-length (λ g. eqb g 0) (drop i gs), length-drop i gs))

pub returns-in_err-start : goal.returns-in_err-start
returns-in_err-start c = rw c.from_residual.ensures (let e = run_nowhere c.args.groups.now (λ k l. c.in_err-start.ensures k (omega arith)) in omega arith)

pub overflow_add-end : goal.overflow_add-end
overflow_add-end c = let h = c.in_ok-start.ensures in omega (arith, counted c.args.groups.now _ c.in_ok-start.start c.leading_zeros.result c.leading_zeros.ensures (omega arith) (omega arith) (omega arith))

pub returns : goal.returns
returns c =
    let h = c.in_ok-start.ensures in
    let z = counted c.args.groups.now _ c.in_ok-start.start c.leading_zeros.result c.leading_zeros.ensures (omega arith) (omega arith) (omega arith) in
    (sym (run_at c.args.groups.now c.in_ok-start.start (omega arith) h.1 h.2), omega arith, omega arith, z.1)
