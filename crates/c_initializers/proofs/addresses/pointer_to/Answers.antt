use Rattle.std.proofs.Common.{subst}
use Rattle.c_initializers.specs.Starts.{AreWithin}
use Rattle.c_initializers.proofs.addresses.pointer_to.Goals as goal

pub returns-in-Some-clause-within : goal.returns-in-Some-clause-within
returns-in-Some-clause-within c = λ n w. c.pointed_at.ensures.within n (subst (AreWithin n) c.in-Some.is w)
