use Rattle.std.proofs.Common.{ap, ◌∙◌}
use Rattle.cheri_c_sem.specs.Expressions.{step_kind}
use Rattle.mean_run.proofs.operations.step_change.Goals as goal

pub returns-clause-computed : goal.returns-clause-computed
returns-clause-computed c = λ vars.
    let p = c.args.s.now.p.now in
    c.step_kind.ensures p vars ∙ ap (step_kind p vars) (c.kind_at-2.ensures vars)
