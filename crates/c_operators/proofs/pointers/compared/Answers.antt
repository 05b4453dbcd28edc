use Rattle.std.proofs.Common.{ap, ◌∙◌}
use Rattle.std.specs.Prelude.{◌&&◌}
use Rattle.c_tree.specs.Types.{is_integer}
use Rattle.c_tree.specs.Constants.{is_null_constant}
use Rattle.c_expressions.specs.Nodes.{IsOperand, operand_in}
use Rattle.c_operators.specs.Rules.{comparing_by, null_of}
use Rattle.c_operators.proofs.Comparing.{first_of, compared-falls}
use Rattle.c_expressions.proofs.Keeping.{answers_is, two_types}
use Rattle.c_operators.proofs.pointers.compared.Goals as goal

pub returns-then-are_integers : goal.returns-then-are_integers
returns-then-are_integers c =
    let n = c.args.nodes.now in
    answers_is n _ _ _ IsOperand _ (first_of _ _ _
    (two_types (λ u v. is_integer u && is_integer v) n _ _ _ _ _ _ c.of-s.ensures c.of-t.ensures
    c.are_integers.ensures c.if-are_integers.true)) c.compared_integers.ensures

pub returns-in-Right : goal.returns-in-Right
returns-in-Right c =
    let n = c.args.nodes.now in
    let x = operand_in n c.args.a in
    let y = operand_in n c.args.b in
    answers_is n _ _ _ IsOperand _
    (compared-falls c.args.op x y c.args.pos (two_types
    (λ u v. is_integer u && is_integer v) n _ _ _ _ _ _ c.of-s.ensures c.of-t.ensures c.are_integers.ensures
    c.if-are_integers.false)
    ∙ ap (λ h. comparing_by h c.args.op c.args.pos x y)
    (two_types (λ u v. null_of u v (is_null_constant x.is) (is_null_constant y.is)) n _ _ _ _ _ _ c.of-s.ensures
    c.of-t.ensures c.null_between.ensures c.in-Right.is))
    c.compared_right.ensures

pub returns-in-Left : goal.returns-in-Left
returns-in-Left c =
    let n = c.args.nodes.now in
    let x = operand_in n c.args.a in
    let y = operand_in n c.args.b in
    answers_is n _ _ _ IsOperand _
    (compared-falls c.args.op x y c.args.pos (two_types
    (λ u v. is_integer u && is_integer v) n _ _ _ _ _ _ c.of-s.ensures c.of-t.ensures c.are_integers.ensures
    c.if-are_integers.false)
    ∙ ap (λ h. comparing_by h c.args.op c.args.pos x y)
    (two_types (λ u v. null_of u v (is_null_constant x.is) (is_null_constant y.is)) n _ _ _ _ _ _ c.of-s.ensures
    c.of-t.ensures c.null_between.ensures c.in-Left.is))
    c.compared_left.ensures

pub returns-in-Neither : goal.returns-in-Neither
returns-in-Neither c =
    let n = c.args.nodes.now in
    let x = operand_in n c.args.a in
    let y = operand_in n c.args.b in
    answers_is n _ _ _ IsOperand _
    (compared-falls c.args.op x y c.args.pos (two_types
    (λ u v. is_integer u && is_integer v) n _ _ _ _ _ _ c.of-s.ensures c.of-t.ensures c.are_integers.ensures
    c.if-are_integers.false)
    ∙ ap (λ h. comparing_by h c.args.op c.args.pos x y)
    (two_types (λ u v. null_of u v (is_null_constant x.is) (is_null_constant y.is)) n _ _ _ _ _ _ c.of-s.ensures
    c.of-t.ensures c.null_between.ensures c.in-Neither.is))
    c.compared_pointers.ensures
