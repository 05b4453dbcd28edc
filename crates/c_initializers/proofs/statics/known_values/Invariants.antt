use Rattle.std.proofs.Common.{◌≡◌, Err, Some, length, take, drop, map}
use Rattle.c_tree.specs.Readings as meant
use Rattle.c_tree.specs.Scopes.{State, Fault}
use Rattle.c_tree.specs.Statics.{known_value, start_slots}
use Rattle.c_elaborator.specs.Work.{Shows}
use Rattle.c_initializers.specs.Slots.{slots_in}
use Rattle.c_initializers.specs.Starts.{known_of}
use Rattle.c_initializers.proofs.statics.known_values.Given as goal

abbrev pub invariant-loop-x : goal.invariant-loop-x
invariant-loop-x l = record {
  count : length l.known.items ≡ l.x-index;
  knows : (s : State) → Shows l.work s →
      map (λ (x : meant.Slot). known_value s x.value) (slots_in l.work.nodes (take l.x-index l.slots))
      ≡ map (λ k. Some (known_of k)) l.known.items;
  fails : (s : State) (e : Fault) → Shows l.work s →
      start_slots (slots_in l.work.nodes (drop l.x-index l.slots)) s ≡ Err e →
      start_slots (slots_in l.work.nodes l.slots) s ≡ Err e;
}
