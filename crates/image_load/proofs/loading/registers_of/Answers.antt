use Rattle.std.proofs.Common.{arith}
use Rattle.image_load.proofs.Sorted.{judged_well}
use Rattle.image_load.proofs.loading.registers_of.Goals as goal

pub registers-requires-clause-stack : goal.registers-requires-clause-stack
registers-requires-clause-stack c = rw c.stack_of.ensures ((judged_well c.args.view.now c.requires).stack)

pub registers-requires-clause-table : goal.registers-requires-clause-table
registers-requires-clause-table c = rw c.table_of.ensures ((judged_well c.args.view.now c.requires).table)

pub registers-requires-clause-end : goal.registers-requires-clause-end
registers-requires-clause-end c = rw c.stack_of.ensures
    (let h = (judged_well c.args.view.now c.requires).spread.stack.end in omega (arith, h))
