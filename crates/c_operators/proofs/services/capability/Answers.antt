use Rattle.std.proofs.Common.{refl}
use Rattle.c_tree.specs.Types.{is_capability}
use Rattle.c_expressions.proofs.Keeping.{given_term, has_term_same, needed, one_type}
use Rattle.c_operators.proofs.services.capability.Goals as goal

pub returns : goal.returns
returns c =
    let n = c.args.nodes.now in
    given_term n n _ _ c.args.x.node (has_term_same n c.args.x.node _ c.requires.whole c.requires.operand refl)
    (λ s. needed _ 133 c.args.x.first _ s (one_type is_capability n _ _ _ _ c.of.ensures c.is_capability.ensures
    c.if-not-is_capability.false))
