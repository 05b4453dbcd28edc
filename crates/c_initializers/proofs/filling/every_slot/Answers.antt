use Rattle.c_initializers.proofs.FillLaws.{every-slot}
use Rattle.c_initializers.proofs.filling.every_slot.Goals as goal

pub returns : goal.returns
returns c =
    every-slot c.args.work.now c.scalar_slots.new.nodes c.in_ok-count.count c.args.whole c.args.of c.args.slots.now
    c.in_ok-extents.extents.items c.as_slice-3.result.now c.as_slice.result.now c.in_ok-places.places.items
    c.as_slice-2.result.now c.in_ok-out.out c.in_ok-extents.ensures c.in_ok-places.ensures c.as_slice-3.ensures.value
    c.as_slice.ensures.value c.as_slice-2.ensures.value c.in_ok-out.ensures
