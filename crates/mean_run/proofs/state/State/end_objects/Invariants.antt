use Rattle.std.proofs.Common.{◌≡◌, ◌+◌, drop}
use Rattle.std.specs.Prelude.{slice_get}
use Rattle.cheri_c_sem.specs.Calls.{end_locals}
use Rattle.mean_run.specs.Views.{fun_of}
use Rattle.mean_run.proofs.state.State.end_objects.Given as goal

abbrev pub invariant-objects : goal.invariant-objects
invariant-objects g l =
    let ops = g.B.Operations.meaning l.fn.m in
    let all = (fun_of l.s.p.now l.g (slice_get l.s.p.now.funs l.g)).objects in
    record {
      same : g.B.Operations.meaning l.m ≡ ops;
      left : end_locals ops (g.B.Operations.held l.fn.m) l.self.call.first all
          ≡ end_locals ops (g.B.Operations.held l.m) (l.self.call.first + l.n) (drop l.n all);
    }
