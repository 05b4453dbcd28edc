use Rattle.cap_machine.proofs.Aligned.{aligned}
use Rattle.cap_machine.proofs.machine.Machine.store_integer.Goals as goal

pub write_near-requires-clause-aligned : goal.write_near-requires-clause-aligned
write_near-requires-clause-aligned c = aligned _ _ _ c.in-Ok.at c.in-Ok.ensures
