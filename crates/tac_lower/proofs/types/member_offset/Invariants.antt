use Rattle.std.proofs.Common.{◌≡◌, ◌+◌, ◌*◌, ◌≤◌, drop}
use Rattle.c_tree.specs.Layout.{extent, no_members, struct_offset}
use Rattle.tac_lower.proofs.Tabled.{end_at}
use Rattle.tac_lower.proofs.types.member_offset.Given as goal

abbrev pub invariant-loop-m : goal.invariant-loop-m
invariant-loop-m l = record {
  count : l.left + l.m-index ≡ l.member;
  end : l.end ≤ l.m-index * 67502080;
  offset : struct_offset (extent l.p.types) l.members l.member no_members
      ≡ struct_offset (extent l.p.types) (drop l.m-index l.members) l.left (end_at l.end);
}
