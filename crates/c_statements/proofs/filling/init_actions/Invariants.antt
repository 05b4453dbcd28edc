use Rattle.std.proofs.Common.{take}
use Rattle.c_tree.specs.Scopes.{give}
use Rattle.c_elaborator.specs.Answers.{Done, freely}
use Rattle.c_initializers.specs.Slots.{slots_in}
use Rattle.c_elaborator.specs.Items.{ItemsThere, IsItems}
use Rattle.c_statements.specs.Declaring.{init_items}
use Rattle.c_statements.proofs.filling.init_actions.Given as goal

abbrev pub invariant-loop-slot : goal.invariant-loop-slot
invariant-loop-slot l = Done freely l.fn.work l.work
    (give (init_items l.k l.pos (slots_in l.fn.work.nodes (take l.slot-index l.slots)))) (ItemsThere l.work l.items)
    (IsItems l.work l.items)
