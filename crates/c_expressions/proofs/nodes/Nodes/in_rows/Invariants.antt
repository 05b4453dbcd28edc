use Rattle.std.proofs.Common.{◌≤◌, length, drop}
use Rattle.c_expressions.specs.Nodes.{HasType, type_in}
use Rattle.c_expressions.specs.Rows.{rows_type}
use Rattle.c_expressions.proofs.nodes.Nodes.in_rows.Given as goal

abbrev pub invariant-loop-left : goal.invariant-loop-left
invariant-loop-left l = (l.left ≤ length l.counts) ×
    HasType l.fn.self l.self l.of (rows_type (drop l.left l.counts) (type_in l.fn.self l.fn.t))

abbrev pub decreases-loop-left : goal.decreases-loop-left
decreases-loop-left l = l.left
