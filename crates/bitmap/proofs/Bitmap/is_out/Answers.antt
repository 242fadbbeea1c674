use Rattle.std.proofs.Common.{◌≡◌, ◌+◌, ◌*◌, not, ◌&&◌, sym, ap, ◌∙◌, arith}
use Rattle.std.proofs.lemmas.Bool.{both_ways}
use Rattle.bits.specs.Bit.{bit}
use Rattle.bitmap.specs.Map.{first, share, marked, starts}
use Rattle.bitmap.proofs.Scans.{at_none, at_some, out_no_start, out_gap, out_second, out_rest}
use Rattle.bitmap.proofs.Words.{has_parts}
use Rattle.bitmap.proofs.Bitmap.is_out.Goals as goal
use Rattle.bitmap.proofs.Bitmap.is_out.Goals.{then-bit_at, else-bit_at, then-is_none, else-is_none}

pub returns-then-is_none-2 : goal.returns-then-is_none-2
returns-then-is_none-2 c =
    let s = c.args.self.now in
    let d = s.depth in
    let ws = s.words.now in
    let p = c.in-Some.ensures in
    let h = has_parts d c.args.n p.0 in
    elim c.if-is_none.branch [
      | then-is_none w ↦ elim c.if-bit_at.branch [
        | then-bit_at v ↦
            let full = at_none v.first.result _ _ v.first.ensures (v.is_none.ensures ∙ ap not (sym v.value-is ∙ w.if-is_none.true)) in
            let single = at_none w.first-then-is_none.result _ _ w.first-then-is_none.ensures (w.is_none-then-is_none.ensures ∙ ap not (sym w.value-is ∙ c.if-is_none-2.true)) in
            let q : 64 * share d + first d c.args.n ≡ 64 * c.share_of-share.result + c.in-Some.field-0.start = omega (arith, p.1.from) in
            c.parts_at.ensures
            ∙ ap (λ e. not (marked d ws e && not (starts d ws e))) p.1.to
            ∙ out_rest d ws c.args.n h.1 h.0 (ap (bit ws) q ∙ sym v.if-bit_at.ensures)
            (λ u lo hi. full u (omega (arith, p.1.from)) (omega (arith, p.1.to)))
            (λ i lo hi. single i (omega (arith, p.1.from)) (omega (arith, p.1.to)))
        | else-bit_at v ↦ absurd (both_ways _ v.if-bit_at.false (sym v.value-is ∙ w.if-is_none.true))
      ]
      | else-is_none w ↦ absurd (both_ways _ w.if-is_none.false (sym w.value-is ∙ c.if-is_none-2.true))
    ]

pub returns-else-is_none-2 : goal.returns-else-is_none-2
returns-else-is_none-2 c =
    let s = c.args.self.now in
    let d = s.depth in
    let ws = s.words.now in
    let p = c.in-Some.ensures in
    let at = (has_parts d c.args.n p.0).1 in
    c.if-is_none-2.false ∙ sym (elim c.if-is_none.branch [
      | then-is_none w ↦
          let f = at_some w.first-then-is_none.result _ _ w.first-then-is_none.ensures (w.is_none-then-is_none.ensures ∙ ap not (sym w.value-is ∙ c.if-is_none-2.false)) in
          out_second d ws c.args.n at f.0 (omega (arith, f.1.0, p.1.from)) (omega (arith, f.1.1, p.1.to)) f.1.2
      | else-is_none w ↦ elim c.if-bit_at.branch [
        | then-bit_at v ↦
            let f = at_some v.first.result _ _ v.first.ensures (v.is_none.ensures ∙ ap not (sym v.value-is ∙ w.if-is_none.false)) in
            out_gap d ws c.args.n at f.0 (omega (arith, f.1.0, p.1.from)) (omega (arith, f.1.1, p.1.to)) f.1.2
        | else-bit_at v ↦
            let q : 64 * share d + first d c.args.n ≡ 64 * c.share_of-share.result + c.in-Some.field-0.start = omega (arith, p.1.from) in
            out_no_start d ws c.args.n at (ap (bit ws) q ∙ sym v.if-bit_at.ensures)
      ]
    ])
