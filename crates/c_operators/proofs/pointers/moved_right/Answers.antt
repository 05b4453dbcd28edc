use Rattle.std.proofs.Common.{refl, false}
use Rattle.c_tree.specs.Terms.{Plus, join}
use Rattle.c_expressions.proofs.Keeping.{given_operand, typed_left}
use Rattle.c_operators.proofs.pointers.moved_right.Goals as goal

pub returns : goal.returns
returns c =
    let n = c.args.nodes.now in
    given_operand n _ _ _ _
    (typed_left (λ x y u. join (Plus false) x y u c.args.pos) n c.promoted_term.new.self _ c.args.b.node _ _ _ _ _
    c.requires.right c.of-of.ensures c.in_ok-left.ensures c.in_ok-node.ensures)
    (λ s. refl)
