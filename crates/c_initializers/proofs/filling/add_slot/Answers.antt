use Rattle.std.proofs.Common.{◌≡◌, Option, Some, sym, ap, subst, ◌∙◌}
use Rattle.std.specs.Prelude.{OnOk}
use Rattle.c_tree.specs.Readings as meant
use Rattle.c_tree.specs.Initializers.{scalar_slot}
use Rattle.c_initializers.specs.Slots.{place_of, slots_in, chosen, AddsSlots}
use Rattle.c_initializers.proofs.FillLaws.{chosen-at}
use Rattle.c_initializers.proofs.filling.add_slot.Goals as goal

pub returns-in-Some : goal.returns-in-Some
returns-in-Some c =
    let m = c.args.nodes.now in
    let l = rw c.in-Some.is at c.requires.found in
    let e = ap (chosen (slots_in m c.args.slots.now)) c.in-Some.is
    ∙ chosen-at m c.args.slots.now c.in-Some.k
    (record { at = 0; of = 0; value = 0; first = record { line = 0; col = 0 } }) l in
    subst (λ (o : Option meant.Slot). OnOk c.add_given.result
    (AddsSlots m m c.args.out.now.items c.add_given.new.out.items
    (scalar_slot c.args.whole (place_of m c.args.p) o))) (sym e) c.add_given.ensures
