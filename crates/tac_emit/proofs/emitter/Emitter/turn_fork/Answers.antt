use Rattle.std.proofs.lemmas.Result.{IfOk-weaker, IfOk-from_err as fails}
use Rattle.tac_emit.proofs.Emitting.{turn_emits}
use Rattle.tac_emit.proofs.emitter.Emitter.turn_fork.Goals as goal

pub returns-clause-turned : goal.returns-clause-turned
returns-clause-turned c =
    IfOk-weaker c.stand.result _ _ (λ r g. record {
      middle = c.jump.new.self;
      leads = c.in_ok-jump.ensures.grown;
      stands = g;
    }) c.stand.ensures.stands

pub returns-clause-emits : goal.returns-clause-emits
returns-clause-emits c =
    IfOk-weaker c.stand.result _ _ (λ r g. turn_emits _ _ _ _ _ c.in_ok-jump.ensures.emits g) c.stand.ensures.stands

pub returns-in_err-jump : goal.returns-in_err-jump
returns-in_err-jump c =
    let e = c.from_residual.ensures.0 in
    record {
      adds = fails _ _ e;
      emits = fails _ _ e;
      spent = fails _ _ e;
      turned = fails _ _ e;
    }
