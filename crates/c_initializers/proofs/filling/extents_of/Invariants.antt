use Rattle.std.proofs.Common.{◌≡◌, length, map, take}
use Rattle.c_tree.specs.Scopes.{State}
use Rattle.c_elaborator.specs.Work.{Shows}
use Rattle.c_initializers.specs.declared.covering.Extent.{Extent}
use Rattle.c_initializers.specs.Slots.{extent_of, slots_in}
use Rattle.c_initializers.proofs.filling.extents_of.Given as goal

abbrev pub invariant-loop-x : goal.invariant-loop-x
invariant-loop-x l = record {
  length : length l.extents.items ≡ l.x-index;
  are : (s : State) → Shows l.work s →
      map (λ (e : Extent). (e.from, e.to)) l.extents.items
      ≡ map (extent_of s) (slots_in l.work.nodes (take l.x-index l.slots));
}
