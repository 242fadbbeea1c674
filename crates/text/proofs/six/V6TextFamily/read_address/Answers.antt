-- What is read is eight groups, whose number the text spells.
use Rattle.std.proofs.Common.{rules}
use Rattle.std.proofs.lemmas.Result.{MatchResult-weaker}
use Rattle.address.proofs.Canon.{address_below}
use Rattle.text.proofs.six.V6TextFamily.read_address.Goals as goal

pub returns : goal.returns
returns c =
    MatchResult-weaker c.read.result c.read.ensures
    (λ _ a. search (rules, address_below))
    (λ _ e. search (rules, e.2))
