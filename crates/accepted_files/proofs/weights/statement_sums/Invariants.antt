use Rattle.std.proofs.Common.{◌≡◌, length}
use Rattle.c_tree.specs.TreeWeight.{statement_weight}
use Rattle.accepted_files.specs.Sums.{AreSums}
use Rattle.accepted_files.proofs.weights.statement_sums.Given as goal

abbrev pub invariant-loop-s : goal.invariant-loop-s
invariant-loop-s l = record { many : length l.sums.items ≡ l.s-index; are : AreSums (statement_weight l.p) l.sums.items }
