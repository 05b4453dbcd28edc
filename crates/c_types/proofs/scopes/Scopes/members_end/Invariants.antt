use Rattle.std.proofs.Common.{◌≡◌, ◌<◌, ◌≤◌, false, drop}
use Rattle.c_tree.specs.Layout.{size_limit}
use Rattle.c_tree.specs.Scopes.{State}
use Rattle.cap_layout.specs.Answers.{greatest_align}
use Rattle.cap_layout.specs.Walks.{Walk, placing}
use Rattle.c_type_sizes.specs.Sizes.{numbered_extent}
use Rattle.c_types.specs.Stands.{Stands}
use Rattle.c_types.proofs.scopes.Scopes.members_end.Given as goal

abbrev pub invariant-loop-m : goal.invariant-loop-m
invariant-loop-m l = record {
  walk : (s : State) → Stands l.self l.p s →
      Walk l.large (placing l.shared) (numbered_extent s.tags l.p.types) l.ms (drop l.m-index l.ms) l.end;
  size : l.large ≡ false → l.end.size ≤ size_limit;
  positive : 0 < l.end.align;
  align : l.end.align ≤ greatest_align;
}
