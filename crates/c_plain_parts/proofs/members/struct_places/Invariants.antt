use Rattle.std.specs.List.{All}
use Rattle.c_tree.specs.Scopes.{State}
use Rattle.c_elaborator.specs.Work.{Shows}
use Rattle.c_plain_parts.specs.Members.{IsPlaceThere, IsClose}
use Rattle.c_plain_parts.proofs.MemberLaws.{PlacedTo}
use Rattle.c_plain_parts.proofs.members.struct_places.Given as goal

abbrev pub invariant-loop-m : goal.invariant-loop-m
invariant-loop-m l = record {
  there : All (IsPlaceThere l.work) l.places.items;
  close : All IsClose l.places.items;
  are : (s : State) → Shows l.work s → PlacedTo l.work s l.members l.m-index l.end l.places.items;
}
