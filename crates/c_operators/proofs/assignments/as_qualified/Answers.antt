use Rattle.c_expressions.specs.Nodes.{type_in}
use Rattle.c_operators.proofs.Assigning.{as_qualified-plain}
use Rattle.c_expressions.proofs.Keeping.{has_type_same}
use Rattle.c_operators.proofs.assignments.as_qualified.Goals as goal

pub returns-else-is_const : goal.returns-else-is_const
returns-else-is_const c =
    has_type_same c.args.nodes.now c.args.t _ c.requires.whole c.requires.second
    (as_qualified-plain (type_in c.args.nodes.now c.args.s) _ _ c.is_const.ensures c.if-is_const.false)
