use Rattle.std.proofs.Common.{refl}
use Rattle.c_expressions.proofs.Keeping.{given_operand}
use Rattle.c_operators.proofs.pointers.compared_alike.Goals as goal

pub returns : goal.returns
returns c = given_operand c.args.nodes.now _ _ _ _ c.in_ok-node.ensures (λ s. refl)
