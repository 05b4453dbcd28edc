use Rattle.std.proofs.Common.{◌∙◌}
use Rattle.c_tree.specs.Expressions.{moves}
use Rattle.c_expressions.specs.Nodes.{IsOperand}
use Rattle.c_operators.proofs.Comparing.{first_of, second_of}
use Rattle.c_expressions.proofs.Keeping.{answers_is, two_types}
use Rattle.c_operators.proofs.pointers.sum_of.Goals as goal

pub returns-then-moves : goal.returns-then-moves
returns-then-moves c =
    let n = c.args.nodes.now in
    answers_is n _ _ _ IsOperand _ (first_of _ _ _
    (two_types moves n _ _ _ _ _ _ c.of-s.ensures c.of-t.ensures c.moves.ensures c.if-moves.true))
    c.moved_left.ensures

pub returns-then-moves-2 : goal.returns-then-moves-2
returns-then-moves-2 c =
    let n = c.args.nodes.now in
    answers_is n _ _ _ IsOperand _
    (second_of _ _ _ (two_types moves n _ _ _ _ _ _ c.of-s.ensures c.of-t.ensures c.moves.ensures c.if-moves.false)
    ∙ first_of _ _ _ (two_types moves n _ _ _ _ _ _ c.of-t.ensures c.of-s.ensures c.moves-else-moves.ensures
    c.if-moves-2.true)) c.moved_right.ensures

pub returns-else-moves-2 : goal.returns-else-moves-2
returns-else-moves-2 c =
    let n = c.args.nodes.now in
    answers_is n _ _ _ IsOperand _
    (second_of _ _ _ (two_types moves n _ _ _ _ _ _ c.of-s.ensures c.of-t.ensures c.moves.ensures c.if-moves.false)
    ∙ second_of _ _ _ (two_types moves n _ _ _ _ _ _ c.of-t.ensures c.of-s.ensures c.moves-else-moves.ensures
    c.if-moves-2.false)) c.arithmetic.ensures
