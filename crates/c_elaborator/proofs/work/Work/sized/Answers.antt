use Rattle.std.proofs.Common.{◌≡◌}
use Rattle.cap_layout.specs.declared.answers.LayoutFault.TheVariants.{TooLarge}
use Rattle.c_tree.specs.Expressions.{gives}
use Rattle.c_tree.specs.Types.{unsigned_long}
use Rattle.c_tree.specs.Terms.{leaf, Constant}
use Rattle.c_expressions.specs.Nodes.{type_in}
use Rattle.c_elaborator.specs.Answers.{quietly, OperandThere, IsOperand}
use Rattle.c_elaborator.proofs.Checking.{sized_is, sized_over}
use Rattle.c_elaborator.proofs.Sequencing.{answers_at, lift_operand}
use Rattle.c_elaborator.proofs.work.Work.sized.Goals as goal

pub returns-in-Ok : goal.returns-in-Ok
returns-in-Ok c =
    let w = c.args.self.now in
    let p = c.args.pos in
    answers_at quietly w _ _ (gives (leaf (Constant c.in-Ok.layout.size) unsigned_long p) p) OperandThere IsOperand _
    (λ s k. sized_is s (type_in w.nodes c.args.of) c.in-Ok.layout p (c.in-Ok.ensures s k))
    (lift_operand w _ _ _ c.size_constant-in-Ok.ensures)

pub returns-in-Err-TooLarge : goal.returns-in-Err-TooLarge
returns-in-Err-TooLarge c =
    let w = c.args.self.now in
    let p = c.args.pos in
    answers_at quietly w _ _ (gives (leaf (Constant 0) unsigned_long p) p) OperandThere IsOperand _
    (λ s k.
    let q : c.in-Err-TooLarge.field-0 ≡ TooLarge = rw c.in-Err-TooLarge.is at c.in-Err-TooLarge.field-0-is in
    let l = c.measured-measured.ensures s k in
    sized_over s (type_in w.nodes c.args.of) p c.in-Err-TooLarge.field-0 q (rw c.in-Err-TooLarge.is at l))
    (lift_operand w _ _ _ c.size_constant.ensures)
