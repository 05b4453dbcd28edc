use Rattle.std.proofs.lemmas.Result.{on_ok_weaker}
use Rattle.mean_run.specs.Views.{vars_at}
use Rattle.mean_run.proofs.state.State.place_of.Goals as goal

pub returns-in-Global : goal.returns-in-Global
returns-in-Global g c = on_ok_weaker c.global_place.result
    (λ q. rw c.in-Global.is (q (vars_at c.args.s.now.p.now c.args.f))) c.global_place.ensures
