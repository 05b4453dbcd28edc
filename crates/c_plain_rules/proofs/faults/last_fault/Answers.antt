use Rattle.c_plain_parts.proofs.Faulting.{last_is}
use Rattle.std.proofs.lemmas.Result.{IfOk-weaker}
use Rattle.c_plain_rules.proofs.faults.last_fault.Goals as goal

pub returns : goal.returns
returns c =
    IfOk-weaker c.object_faults.result _ _ (λ best f s h.
    last_is s _ _ _ (c.waiting_faults-of_pointers.ensures s h) (c.in_ok-of_functions.ensures s h) (f s h))
    c.object_faults.ensures
