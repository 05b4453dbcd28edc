use Rattle.c_elaborator.specs.Answers.{quietly, OperandThere, IsOperand, operand_in}
use Rattle.c_tree.specs.Conversions.{operand_type}
use Rattle.c_tree.specs.Expressions.{difference_of}
use Rattle.c_operand_rules.specs.Complete.{difference_counted}
use Rattle.c_elaborator.proofs.Checking.{checked, difference_checked, two_told}
use Rattle.c_elaborator.proofs.Sequencing.{lift_operand}
use Rattle.c_elaborator.proofs.work.Work.difference.Goals as goal

pub returns : goal.returns
returns c =
    let w = c.args.self.now in
    let a = operand_in w c.args.a in
    let b = operand_in w c.args.b in
    checked quietly w _ _ (difference_of a b c.args.pos)
    (λ s. difference_counted s (operand_type a) (operand_type b)) 132 a.first OperandThere IsOperand _
    (difference_checked a b c.args.pos)
    (two_told difference_counted w _ _ _ _ _ _ c.of-s.ensures c.of-t.ensures c.is_difference_counted.ensures
    c.if-not-is_difference_counted.false)
    (lift_operand w _ _ _ c.infix_join_of.ensures)
