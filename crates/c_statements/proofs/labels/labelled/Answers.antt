use Rattle.std.proofs.lemmas.Result.{err_from_is_err_and}
use Rattle.c_tree.specs.Programs.{readings}
use Rattle.c_tree.specs.Statements.{case_label, add_label}
use Rattle.c_expressions.specs.Nodes.{type_in}
use Rattle.c_statements.specs.Statements.{LabelThere, IsLabel, CasesThere, IsCases, cases_in}
use Rattle.c_statements.proofs.Failing.{quiet_failed}
use Rattle.c_statements.proofs.Switching.{labelled}
use Rattle.c_statements.proofs.labels.labelled.Goals as goal

pub returns-in_err-value : goal.returns-in_err-value
returns-in_err-value c = let p = err_from_is_err_and c.from_residual.result c.from_residual.ensures.1 in λ xs q.
    let u = c.args.work.now in
    rw (p.1, p.2) (quiet_failed u c.label.new.work (case_label (readings xs) (type_in u.nodes c.args.of))
    (λ v. add_label v c.args.pos (cases_in u c.args.cases)) LabelThere IsLabel CasesThere IsCases _
    (c.in_err-value.ensures xs q))

pub returns : goal.returns
returns c = λ xs q.
    let u = c.args.work.now in
    labelled u c.label.new.work (case_label (readings xs) (type_in u.nodes c.args.of)) c.in_ok-value.value c.args.pos
    c.args.cases c.add_label.result (c.in_ok-value.ensures xs q) c.requires.cases c.add_label.ensures
