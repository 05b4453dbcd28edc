use Rattle.std.proofs.Common.{sym, ap, ◌∙◌}
use Rattle.cheri_c_sem.specs.Modes.{Store}
use Rattle.mean_steps.specs.Machine.{Moment}
use Rattle.mean_steps.specs.Parts.{On}
use Rattle.mean_run.specs.Views.{moment_of}
use Rattle.mean_run.proofs.state.State.store.Goals as goal

pub returns-in-In-clause-did : goal.returns-in-In-clause-did
returns-in-In-clause-did g c = λ p.
    let held = g.B.Operations.held c.args.m.now in
    let set = c.set_variable.ensures p held in
    let now = ap (λ (m : Moment Store). m.now) set in (
      rw c.in-In.is (ap (λ n. On tt n) (sym now)),
      set ∙ ap (λ n. record (moment_of p c.args.self.now held) { now = n }) (sym now),
    )
