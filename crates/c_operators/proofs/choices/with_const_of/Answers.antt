use Rattle.std.proofs.Common.{sym}
use Rattle.std.proofs.lemmas.Result.{IfOk-weaker}
use Rattle.c_expressions.specs.Nodes.{type_in}
use Rattle.c_expressions.proofs.Keeping.{has_type_is, has_type_same}
use Rattle.c_operators.proofs.Choosing.{const_of, const_of-plain}
use Rattle.c_operators.proofs.choices.with_const_of.Goals as goal

pub returns-then-is_either_const : goal.returns-then-is_either_const
returns-then-is_either_const c =
    let n = c.args.nodes.now in
    IfOk-weaker c.qualified.result _ _ (λ k h.
    has_type_is n _ k _ _ h (sym (const_of (type_in n c.args.s) (type_in n c.args.t)
    (type_in n c.args.of) _ c.is_either_const.ensures c.if-is_either_const.true))) c.qualified.ensures

pub returns-else-is_either_const : goal.returns-else-is_either_const
returns-else-is_either_const c =
    let n = c.args.nodes.now in
    has_type_same n c.args.of _ c.requires.whole c.requires.of
    (sym (const_of-plain (type_in n c.args.s) (type_in n c.args.t)
    (type_in n c.args.of) _ c.is_either_const.ensures c.if-is_either_const.false))
