use Rattle.std.proofs.Common.{ap, sym, ◌∙◌, map}
use Rattle.c_tree.specs.Types.{Pointer, Function}
use Rattle.c_tree.specs.Views.{tys}
use Rattle.c_tree.specs.Expressions.{call_of}
use Rattle.c_expressions.specs.Nodes.{IsOperand, operand_in, type_in}
use Rattle.c_expressions.proofs.Keeping.{answers_is}
use Rattle.c_operand_rules.proofs.calls.call.Goals as goal

pub called-requires-clause-gives : goal.called-requires-clause-gives
called-requires-clause-gives c = let h = rw c.in-Some.is at c.in_ok-callee.ensures in h.gives

pub called-requires-clause-params : goal.called-requires-clause-params
called-requires-clause-params c =
    let h = rw c.in-Some.is at c.in_ok-callee.ensures in rw c.as_slice.ensures.value h.params

pub returns-in-Some : goal.returns-in-Some
returns-in-Some c =
    let n = c.args.nodes.now in
    let h = rw c.in-Some.is at c.in_ok-callee.ensures in
    answers_is n _ _ _ IsOperand _
    (ap (λ t. call_of t (operand_in n c.args.f) (map (operand_in n) c.args.xs.now) c.args.pos)
    (sym c.of-of.ensures.is ∙ h.is
    ∙ ap (λ ps. Pointer (Function (type_in n c.in-Some.signature.gives) (tys (map (type_in n) ps))))
    (sym c.as_slice.ensures.value))) c.called.ensures
