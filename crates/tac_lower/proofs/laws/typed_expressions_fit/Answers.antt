use Rattle.tac_lower.proofs.Nodes.{node_fits}
use Rattle.tac_lower.proofs.laws.typed_expressions_fit.Goals as goal

pub returns : goal.returns
returns c = record { fit = λ f k e o w there. node_fits f o k e there w }
