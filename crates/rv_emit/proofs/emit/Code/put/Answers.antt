use Rattle.rv_emit.proofs.Grown.{growing_put}
use Rattle.rv_emit.proofs.emit.Code.put.Goals as goal

pub invariant_of-self : goal.invariant_of-self
invariant_of-self c = rw c.in_err-push.ensures.items c.self.invariant

pub invariant_of-self-2 : goal.invariant_of-self-2
invariant_of-self-2 c =
    (growing_put _ _ _ _ _ _ _ c.in_ok-push.ensures.items c.self.invariant.0 c.requires, c.self.invariant.1)
