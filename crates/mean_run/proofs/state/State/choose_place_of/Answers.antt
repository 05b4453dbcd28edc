use Rattle.mean_run.specs.Views.{vars_at}
use Rattle.mean_run.proofs.state.State.choose_place_of.Goals as goal

pub returns-in-Conditional : goal.returns-in-Conditional
returns-in-Conditional g c =
    rw c.in-Conditional.is (c.by_truth.ensures _ (c.kind_at.ensures (vars_at c.args.s.now.p.now c.args.f)))
