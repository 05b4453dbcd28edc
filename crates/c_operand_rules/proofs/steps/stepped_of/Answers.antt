use Rattle.std.proofs.Common.{ap, sym, ◌∙◌}
use Rattle.std.specs.Prelude.{◌&&◌, not}
use Rattle.c_tree.specs.Types.{bare, is_scalar}
use Rattle.c_tree.specs.Terms.{Step, step}
use Rattle.c_tree.specs.Expressions.{is_modifiable, points_to_function, increments}
use Rattle.c_expressions.specs.Nodes.{type_in, term_in}
use Rattle.c_expressions.proofs.Keeping.{type_is, given_operand, has_term_is, needed, one_type}
use Rattle.c_operand_rules.proofs.steps.stepped_of.Goals as goal

pub returns : goal.returns
returns c =
    let n = c.args.nodes.now in
    let x = term_in n c.args.a.node in
    let t = type_is n _ _ _ c.bare-t.ensures (ap bare c.of-of.ensures.is) in
    given_operand n _ _ _ _
    (has_term_is n _ _ _ _ c.in_ok-node.ensures
    (ap (λ b. step (Step b c.args.in_front) x (type_in n c.bare-t.result) c.args.pos) (sym c.increments-adds.ensures)
    ∙ ap (λ u. step (Step (increments c.args.op) c.args.in_front) x u c.args.pos) t.is))
    (λ s. needed _ 133 c.args.first _ s (one_type
    (λ u. is_modifiable x && is_scalar u && not (points_to_function u)) n _ _ _ _ t c.may_step.ensures
    c.if-not-may_step.false))
