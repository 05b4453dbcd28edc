use Rattle.c_expressions.proofs.Arrays.{qualified-function, qualified-const}
use Rattle.c_expressions.proofs.Keeping.{has_type_same}
use Rattle.c_expressions.proofs.nodes.Nodes.qualified_element.Goals as goal

pub returns-in-Function : goal.returns-in-Function
returns-in-Function c = has_type_same c.args.self.now c.args.t _ c.requires.whole c.requires.there
    (qualified-function _ _ _ c.in-Function.ensures.is)

pub returns-in-Const : goal.returns-in-Const
returns-in-Const c = has_type_same c.args.self.now c.args.t _ c.requires.whole c.requires.there
    (qualified-const _ _ c.in-Const.ensures.is)
