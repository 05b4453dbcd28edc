use Rattle.std.proofs.Common.{ap}
use Rattle.c_elaborator.specs.Answers.{quietly, OperandThere, IsOperand, operand_in}
use Rattle.c_tree.specs.Conversions.{operand_type}
use Rattle.c_tree.specs.Types.{bare}
use Rattle.c_operators.specs.Rules.{compound_of}
use Rattle.c_operand_rules.specs.Complete.{compound_counted}
use Rattle.c_elaborator.proofs.Checking.{checked, compound_checked, two_told, type_is}
use Rattle.c_elaborator.proofs.Sequencing.{lift_operand}
use Rattle.c_elaborator.proofs.work.Work.compound.Goals as goal

pub returns : goal.returns
returns c =
    let w = c.args.self.now in
    let a = operand_in w c.args.a in
    let b = operand_in w c.args.b in
    checked quietly w _ _ (compound_of c.args.op a b c.args.pos)
    (λ s. compound_counted s c.args.op (bare (operand_type a)) (operand_type b)) 132 a.first OperandThere IsOperand
    _ (compound_checked c.args.op a b c.args.pos)
    (two_told (λ st s t. compound_counted st c.args.op s t) w _ _ _ _ _ _
    (type_is _ _ _ _ c.bare-s.ensures (ap bare c.of.ensures.is)) c.of-t.ensures c.is_compound_counted.ensures
    c.if-not-is_compound_counted.false)
    (lift_operand w _ _ _ c.compound_of.ensures)
