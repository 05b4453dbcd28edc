use Rattle.std.proofs.Common.{◌≡◌, ◌+◌, take}
use Rattle.std.specs.List.{sum_by}
use Rattle.c_tree.specs.Views.{values, parts}
use Rattle.c_tree.specs.Weight.{labels_of}
use Rattle.tac_ir.specs.Weights.{capped, expression_weight, statement_weight, before}
use Rattle.tac_ir.proofs.weights.+statement_weight.Given as goal

abbrev pub decreases-statement_weight : goal.decreases-statement_weight
decreases-statement_weight l = l.limit

abbrev pub invariant-loop-i : goal.invariant-loop-i
invariant-loop-i l = l.total ≡ capped (1 + labels_of l.s.kind + sum_by (expression_weight l.p) (values l.s.kind)
    + sum_by (before (statement_weight l.p) l.k) (take l.i (parts l.s.kind)))
