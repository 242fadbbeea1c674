-- A bit at the length or behind it is in the remainder.
use Rattle.std.proofs.Common.{◌≡◌, ◌-◌, ◌%◌, ◌^◌, ◌≤◌, refl, sym, ◌∙◌, arith}
use Rattle.std.proofs.lemmas.Bool.{false≢true}
use Rattle.prefix.specs.Binary.{host_bits, no_host_bits}
use Rattle.prefix.proofs.family.Family.make.Goals as goal

pub returns-then-lower-ne0-clause-bits : goal.returns-then-lower-ne0-clause-bits
returns-then-lower-ne0-clause-bits g c =
    let w = g.Self.Family.WIDTH in
    let n = g.Self.Family.form.number c.args.address in
    let m : c.lower.result ≡ n % 2 ^ (w - c.args.length) = cc in
    (λ e. absurd (false≢true e), λ p. absurd (c.if-lower-ne0.true (m ∙ no_host_bits w c.args.length p.0 n p.1)))

pub returns-clause-bits : goal.returns-clause-bits
returns-clause-bits g c =
    let w = g.Self.Family.WIDTH in
    let n = g.Self.Family.form.number c.args.address in
    let m : c.lower.result ≡ n % 2 ^ (w - c.args.length) = cc in
    let fits : c.args.length ≤ w = omega arith in
    (λ _. (fits, host_bits w c.args.length fits n (sym m ∙ c.if-lower-ne0.false)), λ _. refl)
