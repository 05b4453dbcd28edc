use Rattle.std.proofs.lemmas.Result.{err_from_is_err_and}
use Rattle.c_tree.specs.Expressions.{read_value}
use Rattle.c_tree.specs.Programs.{reading}
use Rattle.c_tree.specs.Statements.{does, one_term}
use Rattle.c_tree.specs.Terms.{Evaluate, no_actions}
use Rattle.c_expressions.specs.Nodes.{term_count}
use Rattle.c_elaborator.specs.Answers.{OperandThere, IsOperand}
use Rattle.c_elaborator.specs.Items.{OnlyThere, IsItems}
use Rattle.c_elaborator.proofs.Going.{one_there}
use Rattle.c_statements.proofs.Failing.{quiet_failed}
use Rattle.c_statements.proofs.Steps.{evaluates}
use Rattle.c_statements.proofs.simple.evaluate_one.Goals as goal

pub does-requires : goal.does-requires
does-requires c =
    let a = c.in_ok-a.ensures c.requires.part.syntax c.requires.part.is in
    record { whole = a.whole; values = one_there (term_count c.value_of.new.work.nodes) c.in_ok-a.a.node a.there }

pub returns-in_err-a : goal.returns-in_err-a
returns-in_err-a c = let p = err_from_is_err_and c.from_residual.result c.from_residual.ensures.1 in λ x q.
    rw (p.1, p.2) (quiet_failed c.args.work.now c.value_of.new.work (read_value (reading x))
    (λ a. does Evaluate (one_term a.is) no_actions c.args.pos) OperandThere IsOperand OnlyThere IsItems _
    (c.in_err-a.ensures x q))

pub returns : goal.returns
returns c = λ x p. evaluates c.args.work.now c.value_of.new.work c.does.new.work (reading x) c.args.pos c.in_ok-a.a _
    (c.in_ok-a.ensures x p) c.does.ensures
