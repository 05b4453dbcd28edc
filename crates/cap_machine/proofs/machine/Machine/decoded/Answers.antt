use Rattle.cap_machine.proofs.Aligned.{aligned}
use Rattle.cap_machine.proofs.machine.Machine.decoded.Goals as goal

pub read_near-requires-clause-aligned : goal.read_near-requires-clause-aligned
read_near-requires-clause-aligned c = aligned _ _ _ c.in-Ok.at c.in-Ok.ensures
