use Rattle.std.proofs.Common.{ap}
use Rattle.std.proofs.lemmas.Result.{IfOk-weaker}
use Rattle.c_tree.specs.Types.{common}
use Rattle.c_tree.specs.Conversions.{converted_term}
use Rattle.c_expressions.specs.Nodes.{type_in}
use Rattle.c_expressions.proofs.Keeping.{typed_step, has_type_is}
use Rattle.c_operators.proofs.assignments.common_right.Goals as goal

pub returns : goal.returns
returns c =
    let n = c.args.nodes.now in
    let t = has_type_is n _ _ _ _ c.in_ok-of.ensures (ap (common (type_in n c.args.s)) c.of-t.ensures.is) in
    IfOk-weaker c.converted.result _ _ (λ k h.
    typed_step (λ x u. converted_term u x) n c.common.new.self _ c.args.node _ k _ c.requires.node t h)
    c.converted.ensures
