use Rattle.c_tree.specs.Expressions.{arms_type}
use Rattle.c_expressions.specs.Nodes.{IsOperand, operand_in}
use Rattle.c_expressions.proofs.Keeping.{answers_after, answers_is}
use Rattle.c_operators.proofs.Choosing.{maybe_none, maybe_some, conditional_none, conditional_is}
use Rattle.c_operators.proofs.choices.conditional.Goals as goal

pub returns-in-None : goal.returns-in-None
returns-in-None c =
    let n = c.args.nodes.now in
    let h = rw c.in-None.is at c.in_ok-arms_type.ensures in
    conditional_none (operand_in n c.args.a) (operand_in n c.args.b) (operand_in n c.args.c) c.args.pos
    (maybe_none c.arms_type.new.nodes (arms_type (operand_in n c.args.b) (operand_in n c.args.c)) h.is)

pub conditional_with-requires-clause-of : goal.conditional_with-requires-clause-of
conditional_with-requires-clause-of c =
    let n = c.args.nodes.now in
    let h = rw c.in-Some.is at c.in_ok-arms_type.ensures in
    (maybe_some c.arms_type.new.nodes c.in-Some.of
    (arms_type (operand_in n c.args.b) (operand_in n c.args.c)) h.is).type.there

pub returns-in-Some : goal.returns-in-Some
returns-in-Some c =
    let n = c.args.nodes.now in
    let m = c.arms_type.new.nodes in
    let h = rw c.in-Some.is at c.in_ok-arms_type.ensures in
    answers_after n m _ _ IsOperand _ h.keeps
    (answers_is m _ _ _ IsOperand _
    (conditional_is n m c.args.a c.args.b c.args.c c.args.pos _ h.keeps c.requires.condition c.requires.second
    c.requires.third (maybe_some m c.in-Some.of _ h.is)) c.conditional_with.ensures)
