use Rattle.std.proofs.lemmas.Result.{IfOk-from_err as fails}
use Rattle.tac_emit.proofs.emitter.Emitter.add_temp.Goals as goal

pub returns-in_err-push : goal.returns-in_err-push
returns-in_err-push c =
    let e = c.from_residual.ensures.0 in record { made = fails _ _ e; temp = fails _ _ e }
