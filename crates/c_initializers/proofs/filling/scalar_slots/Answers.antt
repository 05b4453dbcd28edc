use Rattle.std.proofs.Common.{◌≡◌, ◌++◌, List, get_or, map, sym, ap, subst, ◌∙◌}
use Rattle.std.specs.Prelude.{position}
use Rattle.c_tree.specs.Readings as meant
use Rattle.c_tree.specs.Initializers.{scalar_slot}
use Rattle.c_plain_rules.specs.Place.{Place}
use Rattle.c_expressions.proofs.Keeping.{keeps_same, keeps_then}
use Rattle.c_initializers.specs.Covering.{covers_place}
use Rattle.c_initializers.specs.Slots.{AddsSlots, slots_in, place_of, scalars_given, chosen}
use Rattle.c_initializers.proofs.FillLaws.{no-slots, given_kept, scalars-more}
use Rattle.c_initializers.proofs.filling.scalar_slots.Goals as goal

pub loop-p-init : goal.loop-p-init
loop-p-init c =
    let n = c.args.nodes.now in
    record {
      cursor = c.new-cursor.ensures.is;
      of = c.new-cursor.ensures.of;
      keeps = keeps_same n c.requires.whole;
      there = no-slots n c.new-out.result.items c.new-out.ensures.items;
      are = ap (λ l. slots_in n l ++ scalars_given c.args.whole (slots_in n c.args.slots.now) c.args.extents.now
          (map (place_of n) c.args.scalars.now)) c.new-out.ensures.items;
    }

pub loop-p-preserved : goal.loop-p-preserved
loop-p-preserved c =
    let a = c.args.nodes.now in
    let m = c.loop-p.nodes in
    let n = c.add_slot.new.nodes in
    let h = c.in_ok-add_slot.ensures in
    let i = c.loop-p.invariant in
    let d : Place = record { at = 0; of = 0 } in
    let p = get_or c.args.scalars.now c.loop-p.p-index d in
    let given = c.args.slots.now in
    let q = ap (λ o. scalar_slot c.args.whole (place_of m p) (chosen (slots_in m given) o))
    (c.find-found.ensures.found ∙ ap (position (covers_place p.at)) i.of)
    ∙ given_kept a m given p c.args.extents.now c.args.whole i.keeps c.requires.slots
    (c.requires.scalars c.loop-p.p-index d c.loop-p-test.true) in
    record {
      cursor = c.find-found.ensures.is;
      of = c.find-found.ensures.of ∙ i.of;
      keeps = keeps_then a m n i.keeps h.keeps;
      there = h.there i.there;
      are = scalars-more a m n c.args.whole (slots_in a given) c.args.extents.now c.args.scalars.now c.loop-p.p-index d
          c.loop-p.out.items c.add_slot.new.out.items _ c.loop-p-test.true
          (subst (λ (ys : List meant.Slot). AddsSlots m n c.loop-p.out.items c.add_slot.new.out.items ys) q h) i.there
          i.are;
    }
