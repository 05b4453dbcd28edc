use Rattle.c_tree.specs.Expressions.{sum, dereference}
use Rattle.c_elaborator.specs.Answers.{quietly, OperandThere, IsOperand, operand_in}
use Rattle.c_elaborator.proofs.Sequencing.{then, quiet_law}
use Rattle.c_elaborator.proofs.work.Work.index.Goals as goal

pub returns : goal.returns
returns c =
    let w = c.args.self.now in
    let p = c.args.pos in
    then quietly quiet_law w c.sum.new.self c.dereference.new.self
    (sum (operand_in w c.args.a) (operand_in w c.args.b) p) (λ x. dereference x p c.args.a.first)
    (operand_in c.sum.new.self c.in_ok-x.x) _ OperandThere IsOperand _
    c.in_ok-x.ensures c.dereference.ensures
