use Rattle.c_expressions.specs.Nodes.{type_in}
use Rattle.c_expressions.proofs.Keeping.{keeps_same}
use Rattle.c_operators.proofs.Choosing.{maybe_nothing, arms_left, arms_right}
use Rattle.c_operators.proofs.choices.pointer_arms.Goals as goal

pub returns-in-None : goal.returns-in-None
returns-in-None c = maybe_nothing c.args.nodes.now _ _ (keeps_same c.args.nodes.now c.requires.whole)
    (arms_left _ _ c.in-None.ensures)

pub returns-in-None-target : goal.returns-in-None-target
returns-in-None-target c =
    maybe_nothing c.args.nodes.now _ _ (keeps_same c.args.nodes.now c.requires.whole)
    (arms_right _ (type_in c.args.nodes.now c.args.t) c.in-None-target.ensures)
