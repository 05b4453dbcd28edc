use Rattle.std.proofs.Common.{◌≡◌, ◌++◌, drop, map}
use Rattle.c_expressions.specs.Nodes.{Keeps}
use Rattle.c_initializers.specs.Covering.{IsCursor}
use Rattle.c_initializers.specs.Slots.{AreSlotsThere, slots_in, place_of, scalars_given}
use Rattle.c_initializers.proofs.filling.scalar_slots.Given as goal

abbrev pub invariant-loop-p : goal.invariant-loop-p
invariant-loop-p l = record {
  cursor : IsCursor l.cursor;
  of : l.cursor.extents.now ≡ l.extents;
  keeps : Keeps l.fn.nodes l.nodes;
  there : AreSlotsThere l.nodes l.out.items;
  are : slots_in l.nodes l.out.items ++ scalars_given l.whole (slots_in l.fn.nodes l.slots) l.extents
      (map (place_of l.fn.nodes) (drop l.p-index l.scalars))
      ≡ scalars_given l.whole (slots_in l.fn.nodes l.slots) l.extents (map (place_of l.fn.nodes) l.scalars);
}
