use Rattle.std.proofs.Common.{◌∙◌}
use Rattle.std.proofs.lemmas.Result.{err_from_is_err_and}
use Rattle.c_tree.specs.Programs.{reading}
use Rattle.c_statements.proofs.Steps.{no_step, some_step, step_failed}
use Rattle.c_readings.proofs.Within.{part_there}
use Rattle.c_statements.proofs.heads.optional_step.Goals as goal

pub is_absent-absent-requires : goal.is_absent-absent-requires
is_absent-absent-requires c = part_there c.args.work.now c.args.k c.requires.part

pub returns-then-absent : goal.returns-then-absent
returns-then-absent c = λ x p. no_step c.args.work.now x (reading x) c.requires.whole
    (c.is_absent-absent.ensures x p ∙ c.if-absent.true)

pub returns : goal.returns
returns c = λ x p. some_step c.args.work.now c.value_of.new.work x (reading x) c.in_ok-value.value
    (c.is_absent-absent.ensures x p ∙ c.if-absent.false) (c.in_ok-value.ensures x p)

pub returns-in_err-value : goal.returns-in_err-value
returns-in_err-value c =
    let p = err_from_is_err_and c.from_residual.result c.from_residual.ensures.1 in λ x q.
    rw (p.1, p.2) (step_failed c.args.work.now c.value_of.new.work x (reading x) _
    (c.is_absent-absent.ensures x q ∙ c.if-absent.false) (c.in_err-value.ensures x q))
