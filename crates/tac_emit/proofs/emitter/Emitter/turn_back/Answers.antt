use Rattle.tac_emit.proofs.Spending.{spent_then}
use Rattle.tac_emit.proofs.Wells.{adds_then}
use Rattle.tac_emit.proofs.Labels.{back_grown}
use Rattle.tac_emit.proofs.Emitting.{back_emits}
use Rattle.std.proofs.lemmas.Result.{IfOk-weaker, IfOk-from_err as fails}
use Rattle.tac_emit.proofs.emitter.Emitter.turn_back.Goals as goal

pub returns : goal.returns
returns c =
    record {
      grown = IfOk-weaker c.push-2.result _ _
          (λ r g. back_grown _ _ _ _ c.in_ok-push.ensures.pushed g c.requires.stands) c.push-2.ensures.pushed;
      adds = IfOk-weaker c.push-2.result _ _
          (λ r g. adds_then c.in_ok-push.ensures.adds g) c.push-2.ensures.adds;
      spent = IfOk-weaker c.push-2.result _ _
          (λ r g. spent_then c.in_ok-push.ensures.spent g) c.push-2.ensures.spent;
      emits = IfOk-weaker c.push-2.result _ _
          (λ r g. back_emits _ _ _ _ c.in_ok-push.ensures.pushed g) c.push-2.ensures.pushed;
    }

pub returns-in_err-push : goal.returns-in_err-push
returns-in_err-push c =
    let e = c.from_residual.ensures.0 in
    record {
      adds = fails _ _ e;
      emits = fails _ _ e;
      grown = fails _ _ e;
      spent = fails _ _ e;
    }
