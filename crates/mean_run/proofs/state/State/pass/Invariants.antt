use Rattle.std.proofs.Common.{◌≡◌, drop, Some}
use Rattle.std.specs.Prelude.{map, reverse, slice_get}
use Rattle.obj_mem.specs.Values.{value_of}
use Rattle.cheri_c_sem.specs.Programs.{parameter_of}
use Rattle.mean_steps.specs.Parts.{pass}
use Rattle.mean_run.specs.Views.{moment_of, now_of}
use Rattle.mean_run.proofs.state.State.pass.Given as goal

abbrev pub invariant-params : goal.invariant-params
invariant-params g l =
    let ops = g.B.Operations.meaning l.fn.m in
    let p = l.s.p.now in
    let d = l.d in
    record {
      same : g.B.Operations.meaning l.m ≡ ops;
      left : slice_get p.funs l.g ≡ Some d →
          pass ops d.pos (map (parameter_of p d.vars) d.params) (map value_of (reverse l.fn.values.items))
          (now_of l.fn.self (g.B.Operations.held l.fn.m))
          ≡ pass ops d.pos (map (parameter_of p d.vars) (drop l.x-index d.params))
          (map value_of (reverse l.values.items)) (now_of l.self (g.B.Operations.held l.m));
      frame : slice_get p.funs l.g ≡ Some d → moment_of p l.self (g.B.Operations.held l.m)
          ≡ record (moment_of p l.fn.self (g.B.Operations.held l.fn.m))
          { now = now_of l.self (g.B.Operations.held l.m) };
    }
