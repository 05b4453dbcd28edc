use Rattle.std.proofs.lemmas.Result.{IfOk-from_err as fails}
use Rattle.tac_lower.proofs.expressions.renewed.Goals as goal

pub returns-in_err-stepped : goal.returns-in_err-stepped
returns-in_err-stepped c =
    let e = c.from_residual.ensures.0 in
    record {
      adds = fails _ _ e;
      apart = λ q. fails _ _ e;
      grown = fails _ _ e;
      has = fails _ _ e;
      same = λ q. fails _ _ e;
      spent = fails _ _ e;
    }
