use Rattle.std.proofs.Common.{◌≡◌, drop, map}
use Rattle.cheri_c_sem.specs.Calls.{add_literals}
use Rattle.tac_run.specs.Lists.{bytes_of}
use Rattle.tac_run.specs.Holdings.{ops_of, with_store}
use Rattle.tac_run.proofs.start.add_literals.Given as goal

abbrev pub invariant-literals : goal.invariant-literals
invariant-literals l = record {
  under : l.memory.map ≡ l.fn.memory.map;
  so_far :
      with_store l.memory (add_literals (ops_of l.memory) l.memory.store l.k
      (map bytes_of (drop l.k l.program.p.now.literals)))
      ≡ with_store l.fn.memory (add_literals (ops_of l.fn.memory) l.fn.memory.store 0
      (map bytes_of l.program.p.now.literals));
}
