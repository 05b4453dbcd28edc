use Rattle.rv_emit.proofs.Grown.{growing_append, sound_ask}
use Rattle.rv_emit.proofs.emit.Code.ask.Goals as goal

pub invariant_of-self : goal.invariant_of-self
invariant_of-self c = rw c.in_err-extend_from_slice.ensures.items c.self.invariant

pub invariant_of-self-2 : goal.invariant_of-self-2
invariant_of-self-2 c =
    (growing_append _ _ _ _ _ _ _ c.in_ok-extend_from_slice.ensures.items c.self.invariant.0 (sound_ask _ c.args.service c.from.ensures c.requires.least c.requires.most), c.self.invariant.1)
