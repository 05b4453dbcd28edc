use Rattle.std.proofs.Common.{◌≡◌, ◌-◌, replicate}
use Rattle.cheri_c_sem.specs.Calls.{with_bytes}
use Rattle.tac_run.specs.Holdings.{ops_of, with_store}
use Rattle.tac_run.proofs.start.write_zeros.Given as goal

abbrev pub invariant-zeros : goal.invariant-zeros
invariant-zeros l = record {
  under : l.memory.map ≡ l.fn.memory.map;
  so_far :
      with_store l.memory (with_bytes (ops_of l.memory) l.memory.store l.object l.at (replicate (l.to - l.at) 0))
      ≡ with_store l.fn.memory (with_bytes (ops_of l.fn.memory) l.fn.memory.store l.object l.from
      (replicate (l.to - l.from) 0));
}
