use Rattle.std.proofs.Common.{◌≡◌, ◌+◌, ◌≤◌, drop, length}
use Rattle.cheri_c_sem.specs.Calls.{add_locals}
use Rattle.cheri_c_sem.specs.Programs.{lengths_of}
use Rattle.tac_run.specs.Holdings.{ops_of, with_store}
use Rattle.tac_run.proofs.calls.add_locals.Given as goal

abbrev pub invariant-vars : goal.invariant-vars
invariant-vars l = record {
  few : l.n ≤ l.v-index;
  rest : l.n + length (lengths_of l.program.p.now (drop l.v-index l.vars)) ≡ length (lengths_of l.program.p.now l.vars);
  under : l.memory.map ≡ l.fn.memory.map;
  so_far :
      with_store l.memory (add_locals (ops_of l.memory) l.memory.store l.frame l.fun l.n
      (lengths_of l.program.p.now (drop l.v-index l.vars)))
      ≡ with_store l.fn.memory (add_locals (ops_of l.fn.memory) l.fn.memory.store l.frame l.fun 0
      (lengths_of l.program.p.now l.vars));
}
