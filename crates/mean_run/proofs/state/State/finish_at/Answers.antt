use Rattle.mean_run.specs.Views.{moment_of, vars_at}
use Rattle.mean_run.proofs.Finishing.{same_act}
use Rattle.mean_run.proofs.Serving.{does_stepped, stepped_as}
use Rattle.mean_run.proofs.Stepping.{call_is, service_is}
use Rattle.mean_run.proofs.state.State.finish_at.Goals as goal

pub returns-in-Call-clause-does : goal.returns-in-Call-clause-does
returns-in-Call-clause-does g c = λ fit node peeled sized before.
    let ops = g.B.Operations.meaning c.args.m.now in
    let held = g.B.Operations.held c.args.m.now in
    let p = c.args.s.now.p.now in
    let d = rw c.as_slice.ensures at c.call.ensures.does fit (vars_at p c.args.f) in
    does_stepped _ _ before _ c.call.result (same_act _ _ _ c.call.result
    (call_is ops p c.args.f c.args.k c.args.e.now node (moment_of p c.args.self.now held) _ _ c.in-Call.is) d)

pub returns-in-Library-clause-does : goal.returns-in-Library-clause-does
returns-in-Library-clause-does g c = λ fit node peeled sized before.
    let ops = g.B.Operations.meaning c.args.m.now in
    let held = g.B.Operations.held c.args.m.now in
    let p = c.args.s.now.p.now in
    let d = rw c.as_slice-in-Library.ensures at c.serve.ensures.does p before in
    stepped_as _ _ _ _ _ _ c.serve.result
    (service_is ops p c.args.f c.args.k c.args.e.now node (moment_of p c.args.self.now held) _ _ c.in-Library.is) d

pub returns-in_default-clause-does : goal.returns-in_default-clause-does
returns-in_default-clause-does g c = λ fit node peeled sized before.
    does_stepped _ _ before _ c.finish_of.result (c.finish_of.ensures.does fit node peeled sized)
