use Rattle.select_heap.proofs.Allocating.{heap_reads_back_law}
use Rattle.select_heap.proofs.laws.heap_reads_back.Goals as goal

pub returns : goal.returns
returns c = heap_reads_back_law
