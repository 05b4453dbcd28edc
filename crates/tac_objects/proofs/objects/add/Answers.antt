use Rattle.std.proofs.lemmas.Result.{IfOk-from_err as fails}
use Rattle.tac_objects.proofs.objects.add.Goals as goal

pub returns-in_err-push : goal.returns-in_err-push
returns-in_err-push c =
    let e = c.from_residual.ensures.0 in record { adds = fails _ _ e; pushed = fails _ _ e }
