use Rattle.std.proofs.Common.{◌≡◌, take}
use Rattle.std.specs.Prelude.{sum_by}
use Rattle.c_tree.specs.Weight.{counted, expr_weight}
use Rattle.c_tree.proofs.weighing.exprs_weight.Given as goal

abbrev pub invariant-loop-e : goal.invariant-loop-e
invariant-loop-e l = l.total ≡ counted (sum_by expr_weight (take l.e-index l.exprs))
