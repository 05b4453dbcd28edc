use Rattle.c_expressions.specs.Nodes.{operand_in, type_in}
use Rattle.c_elaborator.proofs.Sequencing.{lift}
use Rattle.c_initializers.specs.Slots.{plain_slot, IsSlotIn, SlotThere, IsSlot}
use Rattle.c_initializers.proofs.strings.plain.Goals as goal

pub returns : goal.returns
returns c =
    let w = c.args.work.now in
    lift w c.plain_in.new.nodes (plain_slot (type_in w.nodes c.args.of) c.args.at (operand_in w.nodes c.args.x))
    IsSlotIn SlotThere IsSlot c.plain_in.result (λ x a h. h.there) (λ x a s h. h.is) c.plain_in.ensures
