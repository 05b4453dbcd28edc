use Rattle.std.proofs.Common.{ap, refl, ◌∙◌}
use Rattle.c_tree.specs.Expressions.{both_agree}
use Rattle.c_expressions.specs.Nodes.{IsOperand, operand_in}
use Rattle.c_operators.specs.Rules.{comparing, comparing_as, fallback_of}
use Rattle.c_operators.proofs.Comparing.{first_of, second_of}
use Rattle.c_expressions.proofs.Keeping.{answers_is, answers_two_after, two_types}
use Rattle.c_operators.proofs.pointers.compared_pointers.Goals as goal

pub returns-then-agree : goal.returns-then-agree
returns-then-agree c =
    let n = c.args.nodes.now in
    let k = c.in_ok-agree.ensures in
    answers_is n _ _ _ IsOperand _ (first_of _ _ _
    (two_types both_agree n _ _ _ _ _ _ c.of-s.ensures c.of-t.ensures k.is c.if-agree.true))
    (answers_two_after (λ x y. comparing c.args.op x.is y.is c.args.pos x.first) n c.both_agree.new.nodes _ c.args.a
    c.args.b _ k.keeps c.requires.left c.requires.right c.compared_alike.ensures)

pub returns-else-agree : goal.returns-else-agree
returns-else-agree c =
    let n = c.args.nodes.now in
    let k = c.in_ok-agree.ensures in
    let x = operand_in n c.args.a in
    let y = operand_in n c.args.b in
    let f = two_types fallback_of n _ _ _ _ _ _ c.of-s.ensures c.of-t.ensures c.fallback_between-how.ensures refl in
    answers_is n _ _ _ IsOperand _
    (second_of _ _ _ (two_types both_agree n _ _ _ _ _ _ c.of-s.ensures c.of-t.ensures k.is c.if-agree.false)
    ∙ ap (λ h. comparing_as h c.args.op c.args.pos x y) f)
    (answers_two_after (λ u v. comparing_as c.fallback_between-how.result c.args.op c.args.pos u v) n
    c.both_agree.new.nodes _ c.args.a c.args.b _ k.keeps c.requires.left c.requires.right c.compared_as.ensures)
