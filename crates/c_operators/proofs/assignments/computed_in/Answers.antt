use Rattle.std.proofs.lemmas.Result.{IfOk-weaker}
use Rattle.c_operators.proofs.Assigning.{computed_in-pointer, computed_in-integer}
use Rattle.c_expressions.proofs.Keeping.{has_type_same, has_type_is}
use Rattle.c_operators.proofs.assignments.computed_in.Goals as goal

pub returns-then-is_pointer : goal.returns-then-is_pointer
returns-then-is_pointer c =
    has_type_same c.args.nodes.now c.args.s _ c.requires.whole c.requires.first
    (computed_in-pointer _ _ _ _ c.is_pointer.ensures c.if-is_pointer.true)

pub returns-else-is_pointer : goal.returns-else-is_pointer
returns-else-is_pointer c =
    IfOk-weaker c.computed_integers.result _ _
    (λ k h. has_type_is _ _ k _ _ h (computed_in-integer c.args.op _ _ _ c.is_pointer.ensures
    c.if-is_pointer.false)) c.computed_integers.ensures
