use Rattle.std.proofs.Common.{◌≡◌, length}
use Rattle.c_tree.specs.TreeWeight.{expression_weight}
use Rattle.accepted_files.specs.Sums.{AreSums}
use Rattle.accepted_files.proofs.weights.expression_sums.Given as goal

abbrev pub invariant-loop-e : goal.invariant-loop-e
invariant-loop-e l = record { many : length l.sums.items ≡ l.e-index; are : AreSums (expression_weight l.p) l.sums.items }
