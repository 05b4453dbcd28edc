use Rattle.c_tree.specs.Types.{is_scalar}
use Rattle.c_tree.specs.Terms.{Conditional, join_three}
use Rattle.c_tree.specs.Conversions.{converted_term}
use Rattle.c_expressions.proofs.Keeping.{choice_join, given_operand, needed, one_type}
use Rattle.c_operators.proofs.choices.conditional_with.Goals as goal

pub returns : goal.returns
returns c =
    let n = c.args.nodes.now in
    given_operand n _ _ _ _
    (choice_join (λ x y z u. join_three Conditional x y z u c.args.pos) converted_term n c.converted.new.self
    c.converted-2.new.self _ c.args.a.node c.args.b.node c.args.c.node c.args.of _ _ _
    c.requires.condition c.requires.second c.requires.third c.requires.of c.in_ok-left.ensures c.in_ok-right.ensures
    c.in_ok-node.ensures)
    (λ s. needed _ 133 c.args.a.first _ s (one_type is_scalar n _ _ _ _ c.of.ensures c.is_scalar.ensures
    c.if-not-is_scalar.false))
