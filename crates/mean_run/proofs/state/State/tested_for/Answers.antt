use Rattle.mean_run.specs.Views.{vars_at}
use Rattle.mean_run.proofs.state.State.tested_for.Goals as goal

pub returns-in-Some : goal.returns-in-Some
returns-in-Some g c =
    rw c.in-Some.is (c.tested_before.ensures _ (c.kind_at.ensures (vars_at c.args.s.now.p.now c.args.f)))
