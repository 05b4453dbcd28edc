use Rattle.std.proofs.Common.{◌≡◌, take}
use Rattle.std.specs.List.{sum_by}
use Rattle.c_tree.specs.Views.{values}
use Rattle.tac_ir.specs.Weights.{capped, expression_weight}
use Rattle.tac_ir.proofs.weights.values_weight.Given as goal

abbrev pub invariant-loop-i : goal.invariant-loop-i
invariant-loop-i l = l.total ≡ capped (sum_by (expression_weight l.p) (take l.i (values l.kind)))
