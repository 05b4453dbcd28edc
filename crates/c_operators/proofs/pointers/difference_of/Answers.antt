use Rattle.std.proofs.Common.{◌∙◌}
use Rattle.ck_int.specs.declared.kinds.IntOp.TheVariants.{Sub}
use Rattle.c_tree.specs.Types.{long}
use Rattle.c_tree.specs.Terms.{Difference, join}
use Rattle.c_tree.specs.Expressions.{moves, differ, gives, arithmetic}
use Rattle.c_expressions.specs.Nodes.{IsOperand}
use Rattle.c_operators.proofs.Comparing.{first_of, second_of}
use Rattle.c_expressions.proofs.Keeping.{answers_is, answers_two_after, two_types}
use Rattle.c_operators.proofs.pointers.difference_of.Goals as goal

pub returns-then-moves : goal.returns-then-moves
returns-then-moves c =
    let n = c.args.nodes.now in
    answers_is n _ _ _ IsOperand _ (first_of _ _ _
    (two_types moves n _ _ _ _ _ _ c.of-s.ensures c.of-t.ensures c.moves.ensures c.if-moves.true))
    c.moved_left.ensures

pub returns-then-differ : goal.returns-then-differ
returns-then-differ c =
    let n = c.args.nodes.now in
    let k = c.in_ok-differ.ensures in
    answers_is n _ _ _ IsOperand _
    (second_of _ _ _ (two_types moves n _ _ _ _ _ _ c.of-s.ensures c.of-t.ensures c.moves.ensures c.if-moves.false)
    ∙ first_of _ _ _ (two_types differ n _ _ _ _ _ _ c.of-s.ensures c.of-t.ensures k.is c.if-differ.true))
    (answers_two_after (λ x y. gives (join Difference x.is y.is long c.args.pos) x.first) n c.differ.new.nodes _
    c.args.a c.args.b _ k.keeps c.requires.left c.requires.right c.pointer_difference.ensures)

pub returns-else-differ : goal.returns-else-differ
returns-else-differ c =
    let n = c.args.nodes.now in
    let k = c.in_ok-differ.ensures in
    answers_is n _ _ _ IsOperand _
    (second_of _ _ _ (two_types moves n _ _ _ _ _ _ c.of-s.ensures c.of-t.ensures c.moves.ensures c.if-moves.false)
    ∙ second_of _ _ _ (two_types differ n _ _ _ _ _ _ c.of-s.ensures c.of-t.ensures k.is c.if-differ.false))
    (answers_two_after (λ x y. arithmetic Sub x y c.args.pos) n c.differ.new.nodes _ c.args.a c.args.b _ k.keeps
    c.requires.left c.requires.right c.arithmetic.ensures)
