use Rattle.std.proofs.lemmas.Result.{err_from_is_err_and}
use Rattle.c_tree.specs.Expressions.{condition, read_value}
use Rattle.c_tree.specs.Programs.{reading}
use Rattle.c_elaborator.specs.Answers.{quietly, OperandThere, IsOperand, TermThere, IsTerm, operand_in}
use Rattle.c_elaborator.proofs.Sequencing.{quiet_law, then, failed}
use Rattle.c_statements.proofs.simple.test.Goals as goal

pub condition-requires : goal.condition-requires
condition-requires c = let a = c.in_ok-a.ensures c.requires.part.syntax c.requires.part.is in
    record { whole = a.whole; operand = a.there }

pub returns-in_err-a : goal.returns-in_err-a
returns-in_err-a c = let p = err_from_is_err_and c.from_residual.result c.from_residual.ensures.1 in λ x q.
    let v = c.value_of.new.work in
    rw (p.1, p.2) (failed quietly c.args.work.now v v
    (read_value (reading x)) condition OperandThere IsOperand TermThere IsTerm _ (c.in_err-a.ensures x q))

pub returns : goal.returns
returns c = λ x p.
    let v = c.value_of.new.work in
    then quietly quiet_law c.args.work.now v v (read_value (reading x)) condition
    (operand_in v c.in_ok-a.a) _ TermThere IsTerm _ (c.in_ok-a.ensures x p) c.condition.ensures
