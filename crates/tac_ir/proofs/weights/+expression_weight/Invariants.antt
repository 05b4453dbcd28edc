use Rattle.std.proofs.Common.{◌≡◌, ◌+◌, take}
use Rattle.std.specs.List.{sum_by}
use Rattle.c_tree.specs.Views.{operands}
use Rattle.c_tree.specs.Weight.{kind_weight}
use Rattle.tac_ir.specs.Weights.{capped, expression_weight, before}
use Rattle.tac_ir.proofs.weights.+expression_weight.Given as goal

abbrev pub decreases-expression_weight : goal.decreases-expression_weight
decreases-expression_weight l = l.limit

abbrev pub invariant-loop-i : goal.invariant-loop-i
invariant-loop-i l = l.total ≡ capped (kind_weight l.e.kind
    + sum_by (before (expression_weight l.p) l.k) (take l.i (operands l.e.kind)))
