use Rattle.std.proofs.Common.{ap}
use Rattle.std.proofs.lemmas.Result.{IfOk-weaker}
use Rattle.c_tree.specs.Types.{Pointer}
use Rattle.c_tree.specs.Expressions.{with_const_of}
use Rattle.c_expressions.specs.Nodes.{type_in}
use Rattle.c_expressions.proofs.Keeping.{has_type_is}
use Rattle.c_operators.proofs.choices.void_pointer.Goals as goal

pub returns : goal.returns
returns c =
    let n = c.args.nodes.now in
    IfOk-weaker c.pointer_with.result _ _ (λ k h.
    has_type_is n _ k _ _ h (ap (λ u. Pointer (with_const_of (type_in n c.args.s) (type_in n c.args.t) u))
    c.requires.whole.void)) c.pointer_with.ensures
