use Rattle.mean_run.specs.Views.{vars_at}
use Rattle.mean_run.proofs.state.State.tested_of.Goals as goal

pub returns-in-While : goal.returns-in-While
returns-in-While g c =
    rw c.in-While.is (c.tested_before.ensures _ (c.kind_at.ensures (vars_at c.args.s.now.p.now c.args.f)))

pub returns-in-Do : goal.returns-in-Do
returns-in-Do g c =
    rw c.in-Do.is
    (λ e l. c.tested_behind.ensures c.args.s.now.p.now _ e
    (c.kind_at-in-Do.ensures (vars_at c.args.s.now.p.now c.args.f)) l)
