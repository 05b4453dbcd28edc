use Rattle.std.proofs.Common.{◌≡◌, drop}
use Rattle.cheri_c_sem.specs.Calls.{with_bytes}
use Rattle.tac_run.specs.Holdings.{ops_of, with_store}
use Rattle.tac_run.proofs.start.write_bytes.Given as goal

abbrev pub invariant-bytes : goal.invariant-bytes
invariant-bytes l = record {
  under : l.memory.map ≡ l.fn.memory.map;
  so_far :
      with_store l.memory (with_bytes (ops_of l.memory) l.memory.store l.object l.at (drop l.at l.bytes))
      ≡ with_store l.fn.memory (with_bytes (ops_of l.fn.memory) l.fn.memory.store l.object 0 l.bytes);
}
