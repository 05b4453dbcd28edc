use Rattle.std.proofs.Common.{ap}
use Rattle.c_elaborator.specs.Answers.{quietly, OperandThere, IsOperand, operand_in}
use Rattle.c_tree.specs.Conversions.{operand_type}
use Rattle.c_tree.specs.Types.{bare}
use Rattle.c_tree.specs.Expressions.{is_counted}
use Rattle.c_operators.specs.Rules.{stepped_of}
use Rattle.c_elaborator.proofs.Checking.{checked, stepped_checked, one_told, type_is}
use Rattle.c_elaborator.proofs.Sequencing.{lift_operand}
use Rattle.c_elaborator.proofs.work.Work.stepped.Goals as goal

pub returns : goal.returns
returns c =
    let w = c.args.self.now in
    let a = operand_in w c.args.a in
    checked quietly w _ _ (stepped_of c.args.op c.args.in_front a c.args.pos c.args.first)
    (λ s. is_counted s (bare (operand_type a))) 132 c.args.first OperandThere IsOperand _
    (stepped_checked c.args.op c.args.in_front a c.args.pos c.args.first)
    (one_told is_counted w _ _ _ _ (type_is _ _ _ _ c.bare-t.ensures (ap bare c.of.ensures.is))
    (λ s k. c.is_counted.ensures s k.stands) c.if-not-is_counted.false)
    (lift_operand w _ _ _ c.stepped_of.ensures)
