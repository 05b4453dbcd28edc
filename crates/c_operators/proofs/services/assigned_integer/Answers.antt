use Rattle.c_operators.proofs.Asking.{assigned_to}
use Rattle.c_operators.proofs.services.assigned_integer.Goals as goal

pub returns : goal.returns
returns c = assigned_to c.args.nodes.now _ _ _ _ c.args.x _ c.requires.operand c.in_ok-of.ensures c.assigned.ensures
