use Rattle.std.proofs.lemmas.Result.{IfOk-weaker}
use Rattle.c_expressions.specs.Nodes.{type_in, term_in}
use Rattle.c_operators.proofs.Assigning.{right_of-promoted, right_of-common}
use Rattle.c_expressions.proofs.Keeping.{has_term_is}
use Rattle.c_operators.proofs.assignments.right_of.Goals as goal

pub returns-then-right_is_promoted : goal.returns-then-right_is_promoted
returns-then-right_is_promoted c =
    let n = c.args.nodes.now in
    IfOk-weaker c.promoted_term.result _ _ (λ k h.
    has_term_is n _ k _ _ h (right_of-promoted c.args.op (type_in n c.args.s)
    (term_in n c.args.node) _ c.right_is_promoted.ensures c.if-right_is_promoted.true)) c.promoted_term.ensures

pub returns-else-right_is_promoted : goal.returns-else-right_is_promoted
returns-else-right_is_promoted c =
    let n = c.args.nodes.now in
    IfOk-weaker c.common_right.result _ _ (λ k h.
    has_term_is n _ k _ _ h (right_of-common c.args.op (type_in n c.args.s)
    (term_in n c.args.node) _ c.right_is_promoted.ensures c.if-right_is_promoted.false)) c.common_right.ensures
