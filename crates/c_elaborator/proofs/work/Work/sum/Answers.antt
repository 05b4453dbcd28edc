use Rattle.c_elaborator.specs.Answers.{quietly, OperandThere, IsOperand, operand_in}
use Rattle.c_tree.specs.Conversions.{operand_type}
use Rattle.c_tree.specs.Expressions.{sum_of}
use Rattle.c_operand_rules.specs.Complete.{sum_counted}
use Rattle.c_elaborator.proofs.Checking.{checked, sum_checked, two_told}
use Rattle.c_elaborator.proofs.Sequencing.{lift_operand}
use Rattle.c_elaborator.proofs.work.Work.sum.Goals as goal

pub returns : goal.returns
returns c =
    let w = c.args.self.now in
    let a = operand_in w c.args.a in
    let b = operand_in w c.args.b in
    checked quietly w _ _ (sum_of a b c.args.pos)
    (λ s. sum_counted s (operand_type a) (operand_type b)) 132 a.first OperandThere IsOperand _
    (sum_checked a b c.args.pos)
    (two_told sum_counted w _ _ _ _ _ _ c.of-s.ensures c.of-t.ensures c.is_sum_counted.ensures
    c.if-not-is_sum_counted.false)
    (lift_operand w _ _ _ c.infix_join_of.ensures)
