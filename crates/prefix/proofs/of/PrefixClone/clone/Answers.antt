-- Prefixes of one address and one length are one prefix: what else they hold has one proof at most.
use Rattle.std.proofs.Common.{◌≡◌, ◌-◌, ◌%◌, ◌^◌, ◌≤◌, rules}
use Rattle.std.proofs.Props.{props}
use mathlib.Core.HLevel.{is_prop→PathP}
use Rattle.prefix.specs.declared.of.Prefix.{Prefix}
use Rattle.prefix.proofs.of.PrefixClone.clone.Given.{Over}
use Rattle.prefix.proofs.of.PrefixClone.clone.Goals as goal

one_prefix : (g : Over) (p q : Prefix g.row.A.Denot g.A.Address) → p.address ≡ q.address → p.length ≡ q.length → p ≡ q
one_prefix g p q a l = λ i. record {
  address = a i;
  length = l i;
  real = is_prop→PathP (λ j. g.A.Address.real (a j)) (λ j. g.A.Address.real_once (a j)) p.real q.real i;
  within = is_prop→PathP (λ j. l j ≤ g.A.Address.WIDTH) (λ j. hlevel props) p.within q.within i;
  clear = is_prop→PathP (λ j. g.A.Address.value (a j) % 2 ^ (g.A.Address.WIDTH - l j) ≡ 0) (λ j. hlevel props) p.clear q.clear i;
}

pub returns : goal.returns
returns g c = record { cases = one_prefix g _ c.args.self.now (search rules) (search rules) }
