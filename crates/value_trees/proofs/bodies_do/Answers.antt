use Rattle.value_trees.proofs.Statements.{bodies_do}
use Rattle.value_trees.proofs.bodies_do.Goals as goal

pub returns : goal.returns
returns c = record { done = bodies_do }
