use Rattle.std.proofs.lemmas.Result.{IfOk-from_err as fails}
use Rattle.std.proofs.Common.{refl}
use Rattle.tac_emit.proofs.Spending.{pushed_spent}
use Rattle.tac_emit.proofs.emitter.Emitter.push.Goals as goal

pub returns-clause-spent : goal.returns-clause-spent
returns-clause-spent c = pushed_spent _ _ _ (record { code = c.in_ok-push.ensures.items; kinds = refl; labels = refl })
    c.requires.locals c.requires.zeros

pub returns-in_err-push : goal.returns-in_err-push
returns-in_err-push c =
    let e = c.from_residual.ensures.0 in record { adds = fails _ _ e; pushed = fails _ _ e; spent = fails _ _ e }
