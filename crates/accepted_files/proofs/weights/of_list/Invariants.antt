use Rattle.std.proofs.Common.{◌≡◌, take}
use Rattle.std.specs.Prelude.{slice_index, sum_by}
use Rattle.c_tree.specs.Weight.{counted}
use Rattle.accepted_files.proofs.weights.of_list.Given as goal

abbrev pub invariant-loop-k : goal.invariant-loop-k
invariant-loop-k l = l.total ≡ counted (sum_by (slice_index l.sums) (take l.k-index l.nodes))
