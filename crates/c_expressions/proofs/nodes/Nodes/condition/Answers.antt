use Rattle.std.proofs.Common.{refl}
use Rattle.c_tree.specs.Types.{is_scalar}
use Rattle.c_expressions.proofs.Keeping.{given_term, has_term_same, needed, one_type}
use Rattle.c_expressions.proofs.nodes.Nodes.condition.Goals as goal

pub returns : goal.returns
returns c =
    let n = c.args.self.now in
    given_term n n _ _ c.args.a.node (has_term_same n c.args.a.node _ c.requires.whole c.requires.operand refl)
    (λ s. needed _ 133 c.args.a.first _ s (one_type is_scalar n _ _ _ _ c.of.ensures c.is_scalar.ensures
    c.if-not-is_scalar.false))
