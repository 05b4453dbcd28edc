use Rattle.c_initializers.proofs.CoverLaws.{IsOrderedTo}
use Rattle.c_initializers.proofs.covering.are_ordered.Given as goal

abbrev pub invariant-loop-e : goal.invariant-loop-e
invariant-loop-e l = IsOrderedTo l.extents l.e-index l.end
