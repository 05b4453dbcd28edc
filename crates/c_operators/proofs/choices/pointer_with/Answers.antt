use Rattle.std.proofs.Common.{ap}
use Rattle.std.proofs.lemmas.Result.{IfOk-weaker}
use Rattle.c_tree.specs.Types.{Pointer}
use Rattle.c_expressions.proofs.Keeping.{has_type_then}
use Rattle.c_operators.proofs.choices.pointer_with.Goals as goal

pub returns : goal.returns
returns c = IfOk-weaker c.pointer_to.result _ _
    (λ k h. has_type_then c.args.nodes.now c.with_const_of.new.nodes _ k _ _ c.in_ok-to.ensures.keeps h
    (ap Pointer c.in_ok-to.ensures.is.is)) c.pointer_to.ensures
