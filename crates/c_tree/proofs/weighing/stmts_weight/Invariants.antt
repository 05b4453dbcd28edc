use Rattle.std.proofs.Common.{◌≡◌, take}
use Rattle.std.specs.Prelude.{sum_by}
use Rattle.c_tree.specs.Weight.{counted, stmt_weight}
use Rattle.c_tree.proofs.weighing.stmts_weight.Given as goal

abbrev pub invariant-loop-s : goal.invariant-loop-s
invariant-loop-s l = l.total ≡ counted (sum_by stmt_weight (take l.s-index l.stmts))
