use Rattle.std.specs.Prelude.{◌&&◌}
use Rattle.c_tree.specs.Types.{common, is_integer}
use Rattle.c_tree.specs.Conversions.{converted_term}
use Rattle.c_tree.specs.Expressions.{integer_join}
use Rattle.c_expressions.proofs.Keeping.{given_operand, converted_join, has_type_is, needed, two_types, two_at}
use Rattle.c_operators.proofs.operators.arithmetic.Goals as goal

pub returns : goal.returns
returns c =
    let n = c.args.nodes.now in
    let t = has_type_is n _ _ _ _ c.in_ok-of.ensures (two_at common n _ _ _ _ c.of-s.ensures c.of-t.ensures) in
    given_operand n _ _ _ _
    (converted_join (λ x y u. integer_join c.args.op x y u c.args.pos) converted_term converted_term n c.common.new.self
    c.converted.new.self c.converted-2.new.self _ c.args.a.node c.args.b.node _ _ _ _ _
    c.requires.left c.requires.right t c.in_ok-left.ensures c.in_ok-right.ensures c.in_ok-node.ensures)
    (λ s. needed _ 133 c.args.a.first _ s (two_types
    (λ u v. is_integer u && is_integer v) n _ _ _ _ _ _ c.of-s.ensures c.of-t.ensures c.are_integers.ensures
    c.if-not-are_integers.false))
