use Rattle.tac_emit.proofs.Spending.{spent_then}
use Rattle.std.proofs.lemmas.Result.{IfOk-weaker, IfOk-from_err as fails}
use Rattle.tac_emit.proofs.Wells.{grown_then, adds_then}
use Rattle.tac_lower.proofs.Operating.{moved_emits}
use Rattle.tac_lower.proofs.operations.moved.Goals as goal

pub returns : goal.returns
returns c =
    record {
      grown = IfOk-weaker c.offset.result _ _
          (λ r g. grown_then _ _ _ c.in_ok-by.ensures.grown g) c.offset.ensures.grown;
      adds = IfOk-weaker c.offset.result _ _
          (λ r g. adds_then c.in_ok-by.ensures.adds g) c.offset.ensures.adds;
      spent = IfOk-weaker c.offset.result _ _
          (λ r g. spent_then c.in_ok-by.ensures.spent g) (c.offset.ensures.temp c.in_ok-by.ensures.temp);
      emits = IfOk-weaker c.offset.result _ _
          (λ r g. moved_emits _ _ _ c.in_ok-by.ensures.temp_is c.in_ok-by.ensures.emits g) c.offset.ensures.emits;
    }

pub returns-in_err-by : goal.returns-in_err-by
returns-in_err-by c =
    let e = c.from_residual.ensures.0 in
    record {
      adds = fails _ _ e;
      emits = fails _ _ e;
      grown = fails _ _ e;
      spent = fails _ _ e;
    }
