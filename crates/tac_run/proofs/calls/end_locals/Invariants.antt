use Rattle.std.proofs.Common.{◌≡◌, ◌+◌, ◌^◌, ◌<◌, drop, length}
use Rattle.cheri_c_sem.specs.Calls.{end_locals}
use Rattle.cheri_c_sem.specs.Programs.{lengths_of}
use Rattle.tac_run.specs.Holdings.{ops_of, with_store}
use Rattle.tac_run.proofs.calls.end_locals.Given as goal

abbrev pub invariant-vars : goal.invariant-vars
invariant-vars l = record {
  room : l.object + length (lengths_of l.program.p.now (drop l.v-index l.vars)) < 2 ^ 64;
  under : l.memory.map ≡ l.fn.memory.map;
  so_far :
      with_store l.memory (end_locals (ops_of l.memory) l.memory.store l.object
      (lengths_of l.program.p.now (drop l.v-index l.vars)))
      ≡ with_store l.fn.memory (end_locals (ops_of l.fn.memory) l.fn.memory.store l.first
      (lengths_of l.program.p.now l.vars));
}
