use Rattle.cap_machine.proofs.Aligned.{aligned}
use Rattle.cap_machine.proofs.machine.Machine.clc_row.Goals as goal

pub cap_near-requires : goal.cap_near-requires
cap_near-requires c = aligned _ _ _ c.in-Ok.at c.in-Ok.ensures
