use Rattle.std.proofs.Common.{◌≡◌, ◌+◌, ◌<◌, ◌≤◌, drop}
use Rattle.c_tree.specs.Layout.{extent, size_limit, struct_offset, members, behind, no_members}
use Rattle.cap_layout.specs.Answers.{extent_is, greatest_align}
use Rattle.cap_layout.proofs.offsets.struct_offset.Given as goal

abbrev pub invariant-loop-m : goal.invariant-loop-m
invariant-loop-m l = record {
  count : l.left + l.m-index ≡ l.k;
  offset : struct_offset (extent l.p.types) l.ms l.k no_members
      ≡ struct_offset (extent l.p.types) (drop l.m-index l.ms) l.left (extent_is l.end);
  whole : members behind (extent l.p.types) l.ms no_members
      ≡ members behind (extent l.p.types) (drop l.m-index l.ms) (extent_is l.end);
  size : l.end.size ≤ size_limit;
  positive : 0 < l.end.align;
  align : l.end.align ≤ greatest_align;
}
