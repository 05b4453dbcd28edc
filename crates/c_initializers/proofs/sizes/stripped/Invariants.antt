use Rattle.std.proofs.Common.{◌≡◌, ◌<◌}
use Rattle.c_expressions.specs.Nodes.{type_in, type_count}
use Rattle.c_initializers.specs.Places.{stripped}
use Rattle.c_initializers.proofs.PlaceLaws.{words}
use Rattle.c_initializers.proofs.sizes.stripped.Given as goal

abbrev pub invariant-loop-of : goal.invariant-loop-of
invariant-loop-of l = record {
  there : l.at < type_count l.work.nodes;
  is : stripped (type_in l.work.nodes l.at) ≡ stripped (type_in l.work.nodes l.t);
}

abbrev pub decreases-loop-of : goal.decreases-loop-of
decreases-loop-of l = words (type_in l.work.nodes l.at)
