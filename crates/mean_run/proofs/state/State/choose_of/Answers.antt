use Rattle.mean_run.specs.Views.{vars_at}
use Rattle.mean_run.proofs.state.State.choose_of.Goals as goal

pub returns-in-And : goal.returns-in-And
returns-in-And g c =
    rw c.in-And.is (c.by_truth.ensures _ (c.kind_at.ensures (vars_at c.args.s.now.p.now c.args.f)))

pub returns-in-Or : goal.returns-in-Or
returns-in-Or g c =
    rw c.in-Or.is (c.by_truth-in-Or.ensures _ (c.kind_at-in-Or.ensures (vars_at c.args.s.now.p.now c.args.f)))

pub returns-in-Conditional : goal.returns-in-Conditional
returns-in-Conditional g c =
    rw c.in-Conditional.is (c.by_truth-in-Conditional.ensures _
    (c.kind_at-in-Conditional.ensures (vars_at c.args.s.now.p.now c.args.f)))
