use Rattle.std.proofs.Common.{refl}
use Rattle.c_tree.specs.Terms.{Plus, join}
use Rattle.c_expressions.proofs.Keeping.{given_operand, typed_right}
use Rattle.c_operators.proofs.pointers.moved_left.Goals as goal

pub returns : goal.returns
returns c =
    let n = c.args.nodes.now in
    given_operand n _ _ _ _
    (typed_right (λ x y u. join (Plus c.args.minus) x y u c.args.pos) n c.promoted_term.new.self _ c.args.a.node _ _ _ _
    _ c.requires.left c.of-of.ensures c.in_ok-right.ensures c.in_ok-node.ensures)
    (λ s. refl)
