use Rattle.select_heap.proofs.Heap.{allocations_run_law}
use Rattle.select_heap.proofs.laws.allocations_run.Goals as goal

pub returns : goal.returns
returns c = allocations_run_law
