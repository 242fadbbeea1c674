-- What is left of an address without its bits behind the length keeps a prefix's invariant.
use Rattle.std.proofs.Common.{◌≡◌, ◌-◌, ◌/◌, ◌%◌, ◌^◌, min, ap, ◌∙◌, arith}
use native.Mathlib.Nat.{mul-mod_left}
use Rattle.prefix.specs.Bits.{cleared}
use Rattle.prefix.proofs.Making.{cleared_less, block_same}
use Rattle.prefix.proofs.of.OfFamily.enclosing.Given.{Over}
use Rattle.prefix.proofs.of.OfFamily.enclosing.Goals as goal
use Rattle.prefix.proofs.of.OfFamily.enclosing.Goals.{After-from_number}

left : (g : Over) (c : After-from_number g) → g.A.Address.value c.from_number.result ≡ cleared g.A.Address.WIDTH c.args.length (g.A.Address.value c.args.address)
left g c =
    let w = g.A.Address.WIDTH in
    let n = g.A.Address.value c.args.address in
    let m : c.min-length.result ≡ min c.args.length w = omega arith in
    let e : g.A.Address.value c.from_number.result ≡ (n - n % 2 ^ (w - min c.args.length w)) % 2 ^ w = cc in
    cleared_less w c.args.length n (g.A.Address.value c.from_number.result) (g.met.A.Address.below c.args.address c.number-n.ensures.real) e

pub invariant_of-result : goal.invariant_of-result
invariant_of-result g c =
    let w = g.A.Address.WIDTH in
    let n = g.A.Address.value c.args.address in
    let l = c.args.length in
    let k : w - c.min-length.result ≡ w - l = omega arith in
    record {
      real = c.from_number.ensures.real;
      within = omega arith;
      clear = ap (λ x. x % 2 ^ (w - c.min-length.result)) (left g c) ∙ ap (λ x. cleared w l n % 2 ^ x) k ∙ mul-mod_left (n / 2 ^ (w - l)) (2 ^ (w - l));
    }

pub returns : goal.returns
returns g c = block_same _ _ _ _ (left g (goal.at.returns g c).After-from_number) (omega arith)
