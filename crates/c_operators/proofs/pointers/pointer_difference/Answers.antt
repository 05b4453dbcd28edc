use Rattle.std.proofs.Common.{refl}
use Rattle.c_tree.specs.Terms.{Difference, join}
use Rattle.c_expressions.proofs.Keeping.{given_operand, typed_join}
use Rattle.c_operators.proofs.pointers.pointer_difference.Goals as goal

pub returns : goal.returns
returns c =
    let n = c.args.nodes.now in
    given_operand n _ _ _ _ (typed_join (λ x y u. join Difference x y u c.args.pos) n c.long.new.self _ c.args.a.node
    c.args.b.node _ _ _ c.requires.left c.requires.right c.in_ok-of.ensures c.in_ok-node.ensures) (λ s. refl)
