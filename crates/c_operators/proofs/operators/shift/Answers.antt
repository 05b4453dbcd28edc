use Rattle.std.proofs.Common.{ap}
use Rattle.std.specs.Prelude.{◌&&◌}
use Rattle.c_tree.specs.Types.{promoted, is_integer}
use Rattle.c_tree.specs.Conversions.{converted_term}
use Rattle.c_tree.specs.Expressions.{shift_join, promoted_term}
use Rattle.c_expressions.proofs.Keeping.{given_operand, converted_join, has_type_is, needed, two_types}
use Rattle.c_operators.proofs.operators.shift.Goals as goal

pub returns : goal.returns
returns c =
    let n = c.args.nodes.now in
    let t = has_type_is n _ _ _ _ c.in_ok-of.ensures (ap promoted c.of-s.ensures.is) in
    given_operand n _ _ _ _
    (converted_join (λ x y u. shift_join c.args.op x y u c.args.pos) converted_term
    (λ u x. promoted_term x) n c.promoted.new.self c.converted.new.self c.promoted_term.new.self _ c.args.a.node
    c.args.b.node _ _ _ _ _
    c.requires.left c.requires.right t c.in_ok-left.ensures c.in_ok-right.ensures c.in_ok-node.ensures)
    (λ s. needed _ 133 c.args.a.first _ s (two_types
    (λ u v. is_integer u && is_integer v) n _ _ _ _ _ _ c.of-s.ensures c.of-t.ensures c.are_integers.ensures
    c.if-not-are_integers.false))
