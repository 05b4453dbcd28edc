use Rattle.std.proofs.Common.{subst}
use Rattle.c_initializers.specs.Starts.{AreWithin}
use Rattle.c_initializers.proofs.addresses.moved_by.Goals as goal

pub returns-in-Some-x-clause-within : goal.returns-in-Some-x-clause-within
returns-in-Some-x-clause-within c = λ n w.
    c.move_by.ensures.within n (subst (AreWithin n) c.in-Some-x.is w)
