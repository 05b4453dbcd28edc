use Rattle.std.proofs.lemmas.Result.{IfOk-weaker}
use Rattle.c_expressions.specs.Nodes.{operand_in}
use Rattle.c_operators.proofs.Choosing.{maybe_is, arms_type-found}
use Rattle.c_operators.proofs.choices.arms_type.Goals as goal

pub returns : goal.returns
returns c =
    let n = c.args.nodes.now in
    IfOk-weaker c.arms_as.result _ _ (λ o h.
    maybe_is n _ o _ _ h (arms_type-found (operand_in n c.args.b)
    (operand_in n c.args.c) _ _ _ _ c.of-s.ensures.is c.of-t.ensures.is c.in_ok-tagged.ensures
    c.arms_where-how.ensures)) c.arms_as.ensures
