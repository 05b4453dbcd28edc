use Rattle.std.proofs.Common.{refl}
use Rattle.std.specs.Prelude.{slice_get}
use Rattle.obj_mem.specs.Values.{value_of}
use Rattle.mean_run.specs.Views.{fun_of}
use Rattle.mean_run.proofs.Calling.{closed_last, closed_more}
use Rattle.mean_run.proofs.Finishing.{same_act}
use Rattle.mean_run.proofs.state.State.close.Goals as goal

pub returns-in-None-clause-does : goal.returns-in-None-clause-does
returns-in-None-clause-does g c =
    let ops = g.B.Operations.meaning c.args.m.now in
    let held = g.B.Operations.held c.args.m.now in
    let p = c.args.s.now.p.now in
    let left = g.B.Operations.held c.end_objects.new.m in
    let (none, left_none) = c.in-None.ensures in
    same_act _ _ _ c.give_behind.result
    (closed_last ops p c.args.first (fun_of p c.args.g (slice_get p.funs c.args.g)) (value_of c.args.v) c.args.self.now
    (record c.args.self.now { callers = c.pop.new.self }) held left c.end_objects.ensures.did none (rw left_none refl))
    (c.give_behind.ensures p left)

pub returns-in-Some-clause-does : goal.returns-in-Some-clause-does
returns-in-Some-clause-does g c =
    let ops = g.B.Operations.meaning c.args.m.now in
    let held = g.B.Operations.held c.args.m.now in
    let p = c.args.s.now.p.now in
    let left = g.B.Operations.held c.end_objects.new.m in
    same_act _ _ _ c.give_behind-in-Some.result
    (closed_more ops p c.args.first (fun_of p c.args.g (slice_get p.funs c.args.g)) (value_of c.args.v) c.args.self.now
    (record c.args.self.now { callers = c.pop.new.self; call = c.in-Some.caller }) held left c.end_objects.ensures.did
    c.in-Some.caller c.pop.new.self c.in-Some.ensures refl) (c.give_behind-in-Some.ensures p left)
