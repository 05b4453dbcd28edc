use Rattle.std.proofs.Common.{◌≡◌, ◌<◌}
use Rattle.c_expressions.specs.Nodes.{type_in, type_count}
use Rattle.c_expressions.specs.Rows.{rows_type}
use Rattle.c_expressions.proofs.Arrays.{nesting}
use Rattle.c_expressions.proofs.nodes.Nodes.rows.Given as goal

abbrev pub invariant-loop-of : goal.invariant-loop-of
invariant-loop-of l = (l.at < type_count l.self) × (type_in l.self l.t ≡ rows_type l.counts.items (type_in l.self l.at))

abbrev pub decreases-loop-of : goal.decreases-loop-of
decreases-loop-of l = nesting (type_in l.self l.at)
