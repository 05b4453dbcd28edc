use Rattle.cap_machine.proofs.Aligned.{aligned}
use Rattle.cap_machine.proofs.machine.Machine.store_capability.Goals as goal

pub set_cap_near-requires : goal.set_cap_near-requires
set_cap_near-requires c = aligned _ _ _ c.in-Ok.at c.in-Ok.ensures
