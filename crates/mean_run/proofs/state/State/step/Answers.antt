use Rattle.std.proofs.Common.{refl}
use Rattle.mean_run.specs.Views.{moment_of}
use Rattle.mean_run.proofs.Finishing.{same_act}
use Rattle.mean_run.proofs.Serving.{does_stepped, stepped_as}
use Rattle.mean_run.proofs.Stepping.{act_is, over_is}
use Rattle.mean_run.proofs.state.State.step.Goals as goal

pub returns-in-None-clause-does : goal.returns-in-None-clause-does
returns-in-None-clause-does g c = λ fit.
    let ops = g.B.Operations.meaning c.args.m.now in
    let held = g.B.Operations.held c.args.m.now in
    let p = c.args.s.now.p.now in
    let (none, left) = c.in-None.ensures in
    does_stepped _ _ (moment_of p c.args.self.now held) _ c.over.result (same_act _ _ _ c.over.result
    (over_is ops p c.args.self.now (record c.args.self.now { work = c.pop.new.self }) held none (rw left refl))
    (c.over.ensures p ops held (moment_of p c.over.new.self held)))

pub returns-in-Some-clause-does : goal.returns-in-Some-clause-does
returns-in-Some-clause-does g c = λ fit.
    let ops = g.B.Operations.meaning c.args.m.now in
    let held = g.B.Operations.held c.args.m.now in
    let p = c.args.s.now.p.now in
    stepped_as _ _ _ _ _ _ c.act.result
    (act_is ops p c.args.self.now (record c.args.self.now { work = c.pop.new.self }) held c.in-Some.work
    c.in-Some.ensures refl) (c.act.ensures.does fit (moment_of p c.args.self.now held))
