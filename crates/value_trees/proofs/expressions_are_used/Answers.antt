use Rattle.value_trees.proofs.Uses.{are_used}
use Rattle.value_trees.proofs.expressions_are_used.Goals as goal

pub returns : goal.returns
returns c = record { used = are_used }
