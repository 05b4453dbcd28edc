use Rattle.object_memory.proofs.access.+sum_at.Given as goal

abbrev pub decreases-sum_at : goal.decreases-sum_at
decreases-sum_at l = l.n
