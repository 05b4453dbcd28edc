use Rattle.std.proofs.Common.{ap}
use Rattle.c_tree.specs.Types.{promoted, is_integer}
use Rattle.c_tree.specs.Terms.{Unary, step}
use Rattle.c_tree.specs.Conversions.{converted_term}
use Rattle.c_expressions.proofs.Keeping.{given_operand, converted_step, has_type_is, needed, one_type}
use Rattle.c_operators.proofs.operators.promoted_unary.Goals as goal

pub returns : goal.returns
returns c =
    let n = c.args.nodes.now in
    let t = has_type_is n _ _ _ _ c.in_ok-of.ensures (ap promoted c.of-s.ensures.is) in
    given_operand n _ _ _ _
    (converted_step (λ x u. step (Unary c.args.op) x u c.args.pos) converted_term n c.promoted.new.self
    c.converted.new.self _ c.args.a.node _ _ _ _ c.requires.operand t c.in_ok-operand.ensures
    c.in_ok-node.ensures)
    (λ s. needed _ 133 c.args.pos _ s (one_type is_integer n _ _ _ _ c.of-s.ensures c.is_integer.ensures
    c.if-not-is_integer.false))
