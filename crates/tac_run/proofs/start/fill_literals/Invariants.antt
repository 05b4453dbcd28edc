use Rattle.std.proofs.Common.{◌≡◌, ◌+◌, drop, length, map}
use Rattle.cheri_c_sem.specs.Calls.{fill_literals}
use Rattle.tac_run.specs.Lists.{bytes_of}
use Rattle.tac_run.specs.Holdings.{ops_of, with_store}
use Rattle.tac_run.proofs.start.fill_literals.Given as goal

abbrev pub invariant-literals : goal.invariant-literals
invariant-literals l = record {
  under : l.memory.map ≡ l.fn.memory.map;
  so_far :
      with_store l.memory (fill_literals (ops_of l.memory) l.memory.store (length l.program.p.now.globals + l.k)
      (map bytes_of (drop l.k l.program.p.now.literals)))
      ≡ with_store l.fn.memory (fill_literals (ops_of l.fn.memory) l.fn.memory.store (length l.program.p.now.globals)
      (map bytes_of l.program.p.now.literals));
}
