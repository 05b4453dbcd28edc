use Rattle.std.proofs.Common.{false, drop}
use Rattle.c_tree.specs.Layout.{extent}
use Rattle.cap_layout.specs.Walks.{Walk, placing}
use Rattle.cap_layout.proofs.kept.fields.Given as goal

abbrev pub invariant-loop-m : goal.invariant-loop-m
invariant-loop-m l = Walk false (placing l.shared) (extent l.k.types.now) l.ms (drop l.m-index l.ms) l.end
