use Rattle.tac_emit.proofs.Instructions.{convert_grown}
use Rattle.tac_emit.proofs.Emitting.{one_emits}
use Rattle.tac_emit.proofs.Spending.{address_cost}
use Rattle.tac_emit.specs.Spent.{Spent}
use Rattle.std.proofs.Common.{refl, subst}
use Rattle.std.proofs.lemmas.Result.{IfOk-weaker}
use Rattle.tac_emit.proofs.emitter.Emitter.convert.Goals as goal

pub returns-clause-emits : goal.returns-clause-emits
returns-clause-emits c = IfOk-weaker c.push.result _ _
    (λ r g. one_emits _ _ _ refl g) c.push.ensures.pushed

pub returns-clause-grown : goal.returns-clause-grown
returns-clause-grown c = IfOk-weaker c.push.result _ _
    (λ r g. convert_grown _ _ _ _ _ _ c.requires.to c.requires.from g) c.push.ensures.pushed

pub returns-clause-address : goal.returns-clause-address
returns-clause-address c = λ old new. IfOk-weaker c.push.result _ _
    (λ r g. subst (λ n. Spent c.args.self.now c.push.new.self 0 n) (address_cost _ _ old new) g) c.push.ensures.spent
