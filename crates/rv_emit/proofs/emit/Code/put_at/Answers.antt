use Rattle.std.proofs.Common.{◌*◌, ap, length, List}
use Rattle.rv_instr.specs.declared.instr.Instr.{Instr}
use Rattle.rv_emit.proofs.Grown.{growing_put, growing_line}
use Rattle.rv_emit.proofs.emit.Code.put_at.Goals as goal

pub invariant_of-self : goal.invariant_of-self
invariant_of-self c = rw c.in_err-push.ensures.items c.self.invariant

pub invariant_of-self-in_err-push-2 : goal.invariant_of-self-in_err-push-2
invariant_of-self-in_err-push-2 c =
    rw c.in_err-push-2.ensures.items
    (growing_put _ _ _ _ _ _ _ c.in_ok-push.ensures.items c.self.invariant.0 c.requires.plain, c.self.invariant.1)

pub invariant_of-self-2 : goal.invariant_of-self-2
invariant_of-self-2 c =
    (growing_line _ _ _ _ _ _ _ _ _ c.in_ok-push.ensures.items c.in_ok-push-2.ensures.items (ap (λ (w : List Instr). 4 * length w) c.as_slice.ensures.value) c.requires.kind c.self.invariant.0 c.requires.plain, c.self.invariant.1)
