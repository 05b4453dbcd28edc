use Rattle.std.specs.Prelude.{slice_get}
use Rattle.obj_mem.specs.Values.{value_of}
use Rattle.mean_steps.specs.Machine.{closed}
use Rattle.mean_steps.specs.Parts.{at_end}
use Rattle.mean_run.specs.Views.{fun_of, funs_of, moment_of, now_of}
use Rattle.mean_run.proofs.Calling.{gives_ends}
use Rattle.mean_run.proofs.state.State.reach_end.Goals as goal

pub returns-in-Err-clause-does : goal.returns-in-Err-clause-does
returns-in-Err-clause-does g c =
    let ops = g.B.Operations.meaning c.args.m.now in
    let held = g.B.Operations.held c.args.m.now in
    let p = c.args.s.now.p.now in
    let f = fun_of p c.args.g (slice_get p.funs c.args.g) in
    let t = c.args.self.now in
    gives_ends (at_end ops f.name f.at_end) value_of p t t held held
    (λ v m. closed ops (funs_of p) c.args.first f v m.callers m) c.in-Err.stop (moment_of p t held)
    (c.in-Err.ensures (now_of t held))
