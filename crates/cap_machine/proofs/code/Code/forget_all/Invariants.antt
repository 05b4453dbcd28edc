use Rattle.cap_machine.proofs.KeptCode.{AreVacant}
use Rattle.cap_machine.proofs.code.Code.forget_all.Given as goal

abbrev pub invariant-loop-k : goal.invariant-loop-k
invariant-loop-k l = AreVacant l.self.slots l.k
