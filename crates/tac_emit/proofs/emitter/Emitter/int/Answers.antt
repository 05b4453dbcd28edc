use Rattle.tac_emit.proofs.Emitting.{int_emits}
use Rattle.tac_emit.proofs.Instructions.{int_grown}
use Rattle.std.proofs.Common.{subst}
use Rattle.std.proofs.lemmas.Result.{IfOk-weaker}
use Rattle.tac_emit.proofs.Spending.{wide_cost}
use Rattle.tac_emit.specs.Spent.{Spent}
use Rattle.tac_emit.proofs.emitter.Emitter.int.Goals as goal

pub returns-clause-grown : goal.returns-clause-grown
returns-clause-grown c = IfOk-weaker c.push.result _ _
    (λ r g. int_grown _ _ _ _ _ _ _ c.requires.to c.requires.left c.requires.right g) c.push.ensures.pushed

pub returns-clause-emits : goal.returns-clause-emits
returns-clause-emits c = IfOk-weaker c.push.result _ _
    (λ r g. int_emits _ _ _ _ _ _ _ c.requires.right g) c.push.ensures.pushed

pub returns-clause-wide : goal.returns-clause-wide
returns-clause-wide c = λ w. IfOk-weaker c.push.result _ _
    (λ r g. subst (λ n. Spent c.args.self.now c.push.new.self 0 n) (wide_cost _ w) g) c.push.ensures.spent
