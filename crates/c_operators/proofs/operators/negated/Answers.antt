use Rattle.c_tree.specs.Types.{is_scalar}
use Rattle.c_tree.specs.Terms.{Unary, step}
use Rattle.c_tree.specs.declared.typed.UnaryOp.TheVariants.{LogicalNot}
use Rattle.c_expressions.proofs.Keeping.{given_operand, typed_step, needed, one_type}
use Rattle.c_operators.proofs.operators.negated.Goals as goal

pub returns : goal.returns
returns c =
    let n = c.args.nodes.now in
    given_operand n _ _ _ _
    (typed_step (λ x u. step (Unary LogicalNot) x u c.args.pos) n c.int.new.self _ c.args.a.node _ _ _
    c.requires.operand c.in_ok-of.ensures c.in_ok-node.ensures)
    (λ s. needed _ 133 c.args.pos _ s (one_type is_scalar n _ _ _ _ c.of.ensures c.is_scalar.ensures
    c.if-not-is_scalar.false))
