use Rattle.value_trees.proofs.Standing.{trees_stand}
use Rattle.value_trees.proofs.trees_are_values.Goals as goal

pub returns : goal.returns
returns c = record { stand = trees_stand }
