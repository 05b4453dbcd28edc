use Rattle.std.specs.Prelude.{◌&&◌}
use Rattle.c_tree.specs.Types.{is_scalar}
use Rattle.c_tree.specs.Terms.{And, join}
use Rattle.c_expressions.proofs.Keeping.{given_operand, typed_join, needed, two_types}
use Rattle.c_operators.proofs.operators.conjunction.Goals as goal

pub returns : goal.returns
returns c =
    let n = c.args.nodes.now in
    given_operand n _ _ _ _
    (typed_join (λ x y u. join And x y u c.args.pos) n c.int.new.self _ c.args.a.node c.args.b.node _ _ _
    c.requires.left c.requires.right c.in_ok-of.ensures c.in_ok-node.ensures)
    (λ s. needed _ 133 c.args.a.first _ s (two_types
    (λ u v. is_scalar u && is_scalar v) n _ _ _ _ _ _ c.of-s.ensures c.of-t.ensures c.are_scalars.ensures
    c.if-not-are_scalars.false))
