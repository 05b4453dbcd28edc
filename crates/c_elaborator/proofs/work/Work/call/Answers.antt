use Rattle.std.proofs.Common.{refl, sym}
use Rattle.c_tree.specs.Conversions.{operand_type}
use Rattle.c_tree.specs.Expressions.{call_of, is_callable}
use Rattle.c_elaborator.specs.Answers.{quietly, OperandThere, IsOperand, operand_in}
use Rattle.c_elaborator.proofs.Checking.{checked, one_told}
use Rattle.c_elaborator.proofs.Sequencing.{lift_operand}
use Rattle.c_elaborator.proofs.work.Work.call.Goals as goal

pub returns : goal.returns
returns c =
    let w = c.args.self.now in
    let f = operand_in w c.args.f in
    checked quietly w _ _ (call_of (operand_type f) f _ c.args.pos)
    (λ s. is_callable s (operand_type f)) 132 f.first OperandThere IsOperand _ (λ s. refl)
    (one_told is_callable w _ _ _ _ c.of.ensures (λ s k. sym (c.in_ok-callable.ensures s k)) c.if-not-callable.false)
    (lift_operand w _ _ _ c.call.ensures)
