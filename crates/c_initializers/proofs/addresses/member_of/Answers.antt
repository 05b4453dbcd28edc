use Rattle.std.proofs.Common.{subst}
use Rattle.c_initializers.specs.Starts.{AreWithin}
use Rattle.c_initializers.proofs.addresses.member_of.Goals as goal

pub returns-in-Some-2-clause-within : goal.returns-in-Some-2-clause-within
returns-in-Some-2-clause-within c = λ n w. c.move_by.ensures.within n (subst (AreWithin n) c.in-Some.is w)
