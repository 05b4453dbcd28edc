use Rattle.std.proofs.Common.{◌≡◌, ◌-◌, length, drop, Ok}
use Rattle.image_load.specs.Judging.{judged_relocs, initial_of}
use Rattle.image_load.specs.State.{relocated}
use Rattle.image_load.proofs.loading.store_relocs.Given as goal

abbrev pub invariant-loop-r : goal.invariant-loop-r
invariant-loop-r l = record {
  well : judged_relocs (initial_of l.view) (drop l.k l.view.relocs) (Ok tt) ≡ Ok tt;
  so_far : relocated l.mem (drop l.k l.view.relocs) ≡ relocated l.fn.mem l.view.relocs;
}

abbrev pub decreases-loop-r : goal.decreases-loop-r
decreases-loop-r l = length l.view.relocs - l.k
