use Rattle.std.proofs.lemmas.Result.{IfOk-from_err as fails}
use Rattle.tac_lower.proofs.operations.bytes_of.Goals as goal

pub returns-in_err-as_count : goal.returns-in_err-as_count
returns-in_err-as_count c =
    let e = c.from_residual.ensures.0 in
    record {
      adds = fails _ _ e;
      bytes = fails _ _ e;
      emits = fails _ _ e;
      grown = fails _ _ e;
      spent = fails _ _ e;
      temp = fails _ _ e;
      temp_is = fails _ _ e;
    }

pub returns-in_err-scaled : goal.returns-in_err-scaled
returns-in_err-scaled c =
    let e = c.from_residual-in_err-scaled.ensures.0 in
    record {
      adds = fails _ _ e;
      bytes = fails _ _ e;
      emits = fails _ _ e;
      grown = fails _ _ e;
      spent = fails _ _ e;
      temp = fails _ _ e;
      temp_is = fails _ _ e;
    }
