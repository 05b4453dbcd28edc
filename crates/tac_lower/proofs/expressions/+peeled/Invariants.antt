use Rattle.tac_lower.proofs.expressions.+peeled.Given as goal

abbrev pub decreases-peeled : goal.decreases-peeled
decreases-peeled l = l.k
