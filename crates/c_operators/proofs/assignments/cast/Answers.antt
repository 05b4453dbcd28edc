use Rattle.std.proofs.Common.{ap}
use Rattle.c_tree.specs.Terms.{Convert, step}
use Rattle.c_tree.specs.Expressions.{casts}
use Rattle.c_expressions.specs.Nodes.{term_in}
use Rattle.c_expressions.proofs.Keeping.{given_operand, has_term_is, needed, two_types}
use Rattle.c_operators.proofs.assignments.cast.Goals as goal

pub returns : goal.returns
returns c =
    let n = c.args.nodes.now in
    given_operand n _ _ _ _
    (has_term_is n _ _ _ _ c.in_ok-node.ensures
    (ap (λ u. step Convert (term_in n c.args.a.node) u c.args.pos) c.bare-to.ensures.is))
    (λ s. needed _ 133 c.args.pos _ s (two_types casts n _ _ _ _ _ _ c.bare-to.ensures c.of-of.ensures c.casts.ensures
    c.if-not-casts.false))
