use Rattle.select_heap.proofs.Allocating.{heap_moves_on_law}
use Rattle.select_heap.proofs.laws.heap_moves_on.Goals as goal

pub returns : goal.returns
returns c = heap_moves_on_law
