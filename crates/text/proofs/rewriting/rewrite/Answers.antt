-- What was read is written: a prefix has no cause of refusal.
use Rattle.std.proofs.Common.{refl, rules}
use Rattle.prefix.proofs.Making.{refusal_none}
use Rattle.text.specs.Rewriting.{as_prefix, as_address}
use Rattle.text.proofs.Rewrites.{rewrote}
use Rattle.text.proofs.rewriting.rewrite.Goals as goal

pub returns-in_ok-read_prefix-in-Some : goal.returns-in_ok-read_prefix-in-Some
returns-in_ok-read_prefix-in-Some g c =
    let v = g.met.F.Family.valid c.read_prefix.new.into in
    rewrote _ _ _ _ _ _ _ _ (as_prefix _ _ c.in_ok-read_prefix-in-Some.ensures (refusal_none _ _ _ v.within v.clear) refl) c.write_prefix.ensures

pub returns-in_ok-read_address-in-None : goal.returns-in_ok-read_address-in-None
returns-in_ok-read_address-in-None g c = rewrote _ _ _ _ _ _ _ _ (as_address _ (search rules) c.in_ok-read_address-in-None.ensures.0 refl) c.write_address.ensures.wrote
