use Rattle.c_operators.proofs.Numbers.{constant_of_type}
use Rattle.c_operators.proofs.constants.number_with.Goals as goal

pub returns : goal.returns
returns c = constant_of_type c.args.nodes.now _ _ c.args.n.value _ c.args.pos _ _ _ c.in_ok-of.ensures
    c.number_type.ensures c.constant.ensures
