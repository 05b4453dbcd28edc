use Rattle.c_expressions.specs.Nodes.{type_in}
use Rattle.c_operators.proofs.Comparing.{agree_left, agree_right}
use Rattle.c_expressions.proofs.Keeping.{tells_same}
use Rattle.c_operators.proofs.pointers.both_agree.Goals as goal

pub returns-in-None : goal.returns-in-None
returns-in-None c = tells_same c.args.nodes.now _ _ c.requires.whole (agree_left _ _ c.in-None.ensures)

pub returns-in-None-target : goal.returns-in-None-target
returns-in-None-target c =
    tells_same c.args.nodes.now _ _ c.requires.whole
    (agree_right _ (type_in c.args.nodes.now c.args.t) c.in-None-target.ensures)
