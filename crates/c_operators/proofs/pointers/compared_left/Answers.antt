use Rattle.std.proofs.Common.{refl, ap}
use Rattle.c_tree.specs.Types.{int}
use Rattle.c_tree.specs.Terms.{Compare, join}
use Rattle.c_tree.specs.Conversions.{converted_term}
use Rattle.c_expressions.specs.Nodes.{term_in}
use Rattle.c_expressions.proofs.Keeping.{given_operand, join_left, has_term_is}
use Rattle.c_operators.proofs.pointers.compared_left.Goals as goal

pub returns : goal.returns
returns c =
    let n = c.args.nodes.now in
    given_operand n _ _ _ _
    (join_left (λ x y. join (Compare c.args.op) x y int c.args.pos) n c.converted.new.self _ c.args.b.node _ _ _
    c.requires.right
    (has_term_is n _ _ _ _ c.in_ok-left.ensures
    (ap (λ u. converted_term u (term_in n c.args.a.node)) c.of-of.ensures.is)) c.in_ok-node.ensures)
    (λ s. refl)
