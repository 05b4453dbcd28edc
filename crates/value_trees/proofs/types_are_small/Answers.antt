use Rattle.value_trees.proofs.Limits.{are_small}
use Rattle.value_trees.proofs.types_are_small.Goals as goal

pub returns : goal.returns
returns c = record { small = are_small }
