use Rattle.value_trees.proofs.Fitting.{nodes_fit}
use Rattle.value_trees.proofs.nodes_fit.Goals as goal

pub returns : goal.returns
returns c = record { fit = nodes_fit }
