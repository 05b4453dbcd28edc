use Rattle.std.proofs.Common.{◌≡◌, drop}
use Rattle.cheri_c_sem.specs.Calls.{add_locals}
use Rattle.cheri_c_sem.specs.Programs.{lengths_of}
use Rattle.cheri_c_sem.specs.Types.{objects_before}
use Rattle.mean_run.specs.Sizes.{AreSizedVariables}
use Rattle.mean_run.proofs.calls.add_objects.Given as goal

abbrev pub invariant-vars : goal.invariant-vars
invariant-vars g l =
    let ops = g.B.Operations.meaning l.fn.m in
    record {
      same : g.B.Operations.meaning l.m ≡ ops;
      count : l.n ≡ objects_before l.vars l.v-index;
      left : AreSizedVariables l.s.p.now l.vars →
          add_locals ops (g.B.Operations.held l.fn.m) l.frame l.g 0 (lengths_of l.s.p.now l.vars)
          ≡ add_locals ops (g.B.Operations.held l.m) l.frame l.g l.n (lengths_of l.s.p.now (drop l.v-index l.vars));
    }
