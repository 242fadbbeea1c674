use Rattle.limit.proofs.quota.+count.Given as goal

abbrev pub decreases-count : goal.decreases-count
decreases-count g l = l.h
