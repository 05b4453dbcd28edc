use Rattle.rv_emit.proofs.Grown.{growing_all}
use Rattle.rv_emit.proofs.emit.Code.put_all.Goals as goal

pub invariant_of-self : goal.invariant_of-self
invariant_of-self c = rw c.in_err-extend_from_slice.ensures.items c.self.invariant

pub invariant_of-self-2 : goal.invariant_of-self-2
invariant_of-self-2 c =
    (growing_all _ _ _ _ _ _ _ c.in_ok-extend_from_slice.ensures.items c.self.invariant.0 c.requires, c.self.invariant.1)
