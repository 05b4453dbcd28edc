use Rattle.tac_emit.proofs.Emitting.{one_emits}
use Rattle.std.proofs.Common.{refl}
use Rattle.std.proofs.lemmas.Result.{IfOk-weaker}
use Rattle.tac_emit.proofs.Instructions.{copy_units_grown}
use Rattle.tac_emit.proofs.emitter.Emitter.copy_units.Goals as goal

pub returns-clause-grown : goal.returns-clause-grown
returns-clause-grown c = IfOk-weaker c.push.result _ _
    (λ r g. copy_units_grown _ _ _ _ _ _ _ _ c.requires.from c.requires.to c.requires.units g) c.push.ensures.pushed

pub returns-clause-emits : goal.returns-clause-emits
returns-clause-emits c = IfOk-weaker c.push.result _ _
    (λ r g. one_emits _ _ _ refl g) c.push.ensures.pushed
