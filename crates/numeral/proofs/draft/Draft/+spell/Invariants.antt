-- The recursion of `Draft::spell` goes on with a smaller number.
use Rattle.numeral.proofs.draft.Draft.+spell.Given as goal

abbrev pub decreases-spell : goal.decreases-spell
decreases-spell g l = l.n
