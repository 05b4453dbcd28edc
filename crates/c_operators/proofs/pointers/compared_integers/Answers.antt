use Rattle.std.proofs.Common.{refl}
use Rattle.c_tree.specs.Types.{common, int}
use Rattle.c_tree.specs.Terms.{Compare, join}
use Rattle.c_tree.specs.Conversions.{converted_term}
use Rattle.c_expressions.proofs.Keeping.{given_operand, converted_join, has_type_is, two_at}
use Rattle.c_operators.proofs.pointers.compared_integers.Goals as goal

pub returns : goal.returns
returns c =
    let n = c.args.nodes.now in
    let t = has_type_is n _ _ _ _ c.in_ok-of.ensures (two_at common n _ _ _ _ c.of-s.ensures c.of-t.ensures) in
    given_operand n _ _ _ _
    (converted_join (λ x y u. join (Compare c.args.op) x y int c.args.pos) converted_term converted_term n
    c.common.new.self c.converted.new.self c.converted-2.new.self _ c.args.a.node c.args.b.node _ _ _ _ _
    c.requires.left c.requires.right t c.in_ok-left.ensures c.in_ok-right.ensures c.in_ok-node.ensures)
    (λ s. refl)
