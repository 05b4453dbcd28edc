use Rattle.std.proofs.Common.{inl, refl}
use Rattle.cap_machine.proofs.code.Code.before_jump.Goals as goal

pub returns-else-not-is_alike : goal.returns-else-not-is_alike
returns-else-not-is_alike c = inl (refl, c.is_alike.ensures c.if-not-is_alike.false)
