use Rattle.c_tree.specs.Expressions.{dereference, member}
use Rattle.c_elaborator.specs.Answers.{quietly, OperandThere, IsOperand, operand_in}
use Rattle.c_elaborator.proofs.Sequencing.{then, quiet_law}
use Rattle.c_elaborator.proofs.work.Work.member_behind.Goals as goal

pub returns : goal.returns
returns c =
    let w = c.args.self.now in
    let p = c.args.pos in
    then quietly quiet_law w c.dereference.new.self c.member.new.self
    (dereference (operand_in w c.args.a) p c.args.a.first) (λ x. member x c.args.name.now p)
    (operand_in c.dereference.new.self c.in_ok-x.x) _ OperandThere IsOperand _
    c.in_ok-x.ensures c.member.ensures
