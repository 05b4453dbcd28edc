use Rattle.std.proofs.Common.{List, subst}
use Rattle.c_expressions.specs.Nodes.{type_in}
use Rattle.c_elaborator.specs.Answers.{Answers, quietly}
use Rattle.c_initializers.specs.declared.slots.Slot.{Slot}
use Rattle.c_initializers.specs.Slots.{slots_in, every_slot_of, SlotsThere, AreSlots}
use Rattle.c_initializers.proofs.ObjectLaws.{local_steps, slots_step}
use Rattle.c_initializers.proofs.objects.fill_local.Goals as goal

pub returns : goal.returns
returns c =
    let u = c.args.work.now in
    let v = c.complete_local.new.work in
    let w = c.every_slot.new.work in
    let t = c.in_ok-counted.counted in
    let f = c.args.filled.now in
    local_steps u v w c.args.k c.args.of t c.args.name c.args.whole f c.every_slot.result c.in_ok-counted.ensures
    c.requires.filled
    (slots_step v w c.args.name.pos c.args.whole (slots_in v.nodes f.slots.items)
    (type_in v.nodes t) c.every_slot.result c.in_ok-complete_now.ensures.is
    (subst (λ (xs : List Slot). Answers quietly v w
    (every_slot_of c.args.whole (type_in v.nodes t) (slots_in v.nodes xs)) SlotsThere AreSlots
    c.every_slot.result) c.as_slice.ensures.value c.every_slot.ensures))
