use Rattle.std.proofs.Common.{ap, ◌∙◌}
use Rattle.c_tree.specs.Scopes.{State}
use Rattle.c_operators.specs.Rules.{address_of}
use Rattle.c_elaborator.specs.Answers.{quietly, OperandThere, IsOperand, operand_in}
use Rattle.c_elaborator.proofs.Sequencing.{answers_at, lift_operand}
use Rattle.c_elaborator.proofs.Using.{address_is, taken_none}
use Rattle.c_elaborator.proofs.work.Work.address.Goals as goal

pub returns-in-None : goal.returns-in-None
returns-in-None c =
    let w = c.args.self.now in
    let a = operand_in w c.args.a in
    let p = c.args.pos in
    answers_at quietly w _ _ (address_of a p) OperandThere IsOperand _
    (λ s h. address_is a p s ∙ ap (λ (t : State). address_of a p t) (taken_none a.is s c.in-None.ensures))
    (lift_operand w _ _ _ c.address_of.ensures)
