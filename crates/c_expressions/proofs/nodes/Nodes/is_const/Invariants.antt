use Rattle.std.proofs.Common.{◌≡◌, ◌<◌}
use Rattle.c_tree.specs.Types.{is_const}
use Rattle.c_expressions.specs.Nodes.{type_in, type_count}
use Rattle.c_expressions.proofs.Arrays.{nesting}
use Rattle.c_expressions.proofs.nodes.Nodes.is_const.Given as goal

abbrev pub invariant-loop-of : goal.invariant-loop-of
invariant-loop-of l = (l.at < type_count l.self) × (is_const (type_in l.self l.at) ≡ is_const (type_in l.self l.t))

abbrev pub decreases-loop-of : goal.decreases-loop-of
decreases-loop-of l = nesting (type_in l.self l.at)
