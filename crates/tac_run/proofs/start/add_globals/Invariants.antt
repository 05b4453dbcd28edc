use Rattle.std.proofs.Common.{◌≡◌, drop, map}
use Rattle.cheri_c_sem.specs.Calls.{add_globals}
use Rattle.cheri_c_sem.specs.Programs.{global_tree}
use Rattle.tac_run.specs.Holdings.{ops_of, with_store}
use Rattle.tac_run.proofs.start.add_globals.Given as goal

abbrev pub invariant-globals : goal.invariant-globals
invariant-globals l = record {
  under : l.memory.map ≡ l.fn.memory.map;
  so_far :
      with_store l.memory (add_globals (ops_of l.memory) l.memory.store l.k
      (map (global_tree l.program.p.now) (drop l.k l.program.p.now.globals)))
      ≡ with_store l.fn.memory (add_globals (ops_of l.fn.memory) l.fn.memory.store 0
      (map (global_tree l.program.p.now) l.program.p.now.globals));
}
