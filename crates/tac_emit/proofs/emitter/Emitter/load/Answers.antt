use Rattle.tac_emit.proofs.Emitting.{one_emits}
use Rattle.std.proofs.Common.{refl}
use Rattle.std.proofs.lemmas.Result.{IfOk-weaker}
use Rattle.tac_emit.proofs.Instructions.{load_grown}
use Rattle.tac_emit.proofs.emitter.Emitter.load.Goals as goal

pub returns-clause-grown : goal.returns-clause-grown
returns-clause-grown c = IfOk-weaker c.push.result _ _
    (λ r g. load_grown _ _ _ _ _ _ c.requires.to c.requires.from g) c.push.ensures.pushed

pub returns-clause-emits : goal.returns-clause-emits
returns-clause-emits c = IfOk-weaker c.push.result _ _
    (λ r g. one_emits _ _ _ refl g) c.push.ensures.pushed
