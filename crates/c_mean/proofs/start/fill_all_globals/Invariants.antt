use Rattle.std.proofs.Common.{◌≡◌, drop}
use Rattle.std.specs.Prelude.{map}
use Rattle.cheri_c_sem.specs.Calls.{fill_globals}
use Rattle.cheri_c_sem.specs.Programs.{global_tree}
use Rattle.c_mean.proofs.start.fill_all_globals.Given as goal

abbrev pub invariant-loop-k : goal.invariant-loop-k
invariant-loop-k g l =
    let ops = g.B.Operations.meaning l.fn.m in
    record {
      same : g.B.Operations.meaning l.m ≡ ops;
      left : fill_globals ops (g.B.Operations.held l.fn.m) 0 (map (global_tree l.p) l.p.globals)
          ≡ fill_globals ops (g.B.Operations.held l.m) l.k (map (global_tree l.p) (drop l.k l.p.globals));
    }
