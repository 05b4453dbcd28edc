use Rattle.std.proofs.Common.{◌≡◌, ◌+◌, ◌<◌, ◌≤◌, length, refl, sym, ap, ◌∙◌, arith}
use Rattle.std.specs.Prelude.{slice_get}
use Rattle.cheri_c_sem.specs.Calls.{end_locals}
use Rattle.mean_run.specs.Views.{fun_of}
use Rattle.mean_run.proofs.Calling.{all_ended, ended_as, one_ended}
use Rattle.mean_run.proofs.state.State.end_objects.Goals as goal

pub objects-init : goal.objects-init
objects-init g c =
    let p = c.args.s.now.p.now in
    let first : c.args.self.now.call.first ≡ c.args.self.now.call.first + 0 = omega arith in
    record {
      same = refl;
      left = ap (λ i. end_locals (g.B.Operations.meaning c.args.m.now) (g.B.Operations.held c.args.m.now) i
          (fun_of p c.args.g (slice_get p.funs c.args.g)).objects) first;
    }

pub objects-preserved : goal.objects-preserved
objects-preserved g c =
    let p = c.args.s.now.p.now in
    let all = (fun_of p c.args.g (slice_get p.funs c.args.g)).objects in
    let count = c.objects_of-n-end.ensures.is in
    let few = c.objects_of-n-end.ensures.few in
    let within : c.objects.n < length all = omega arith in
    let object = c.object.ensures (omega arith) in
    record {
      same = c.end.ensures.same ∙ c.objects.invariant.same;
      left = c.objects.invariant.left
          ∙ one_ended (g.B.Operations.meaning c.args.m.now) (g.B.Operations.held c.objects.m)
          (g.B.Operations.held c.end.new.self) c.args.self.now.call.first c.objects.n all within
          (c.end.ensures.changes ∙ ended_as _ _ _ _ _ c.objects.invariant.same object);
    }

pub returns-clause-did : goal.returns-clause-did
returns-clause-did g c =
    let p = c.args.s.now.p.now in
    let all = (fun_of p c.args.g (slice_get p.funs c.args.g)).objects in
    let count = c.objects_of-n-end.ensures.is in
    let over : length all ≤ c.objects.n = omega arith in
    sym (c.objects.invariant.left ∙ all_ended (g.B.Operations.meaning c.args.m.now) (g.B.Operations.held c.objects.m)
    c.args.self.now.call.first c.objects.n all over)
