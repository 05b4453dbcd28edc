use Rattle.std.proofs.Common.{rules}
use Rattle.rv_emit.proofs.Grown.{growing_label}
use Rattle.rv_emit.proofs.emit.Code.label.Goals as goal

pub invariant_of-self : goal.invariant_of-self
invariant_of-self c = rw c.in_err-push.ensures.items c.self.invariant

pub invariant_of-self-2 : goal.invariant_of-self-2
invariant_of-self-2 c =
    (growing_label _ _ _ _ _ _ _ c.in_ok-push.ensures.items (search rules) c.self.invariant.0, c.self.invariant.1)
