use Rattle.std.proofs.Common.{refl}
use Rattle.c_operators.proofs.Numbers.{constant_of_type}
use Rattle.c_operators.proofs.constants.size_constant.Goals as goal

pub returns : goal.returns
returns c = constant_of_type c.args.nodes.now _ _ c.args.value _ c.args.pos _ _ _ c.in_ok-of.ensures refl
    c.constant.ensures
