use Rattle.std.proofs.Common.{rules}
use Rattle.rv_emit.proofs.Grown.{growing_loop}
use Rattle.rv_emit.proofs.emit.Code.open_loop.Goals as goal

pub invariant_of-self : goal.invariant_of-self
invariant_of-self c =
    (growing_loop _ _ _ _ _ _ (search rules) c.self.invariant.0, c.self.invariant.1)
