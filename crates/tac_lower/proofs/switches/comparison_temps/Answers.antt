use Rattle.std.proofs.lemmas.Result.{IfOk-from_err as fails}
use Rattle.tac_emit.proofs.Spending.{spent_then}
use Rattle.tac_emit.proofs.Wells.{kept, grown_then, adds_then}
use Rattle.tac_lower.proofs.Cases.{compared_none}
use Rattle.tac_lower.proofs.switches.comparison_temps.Goals as goal

pub returns : goal.returns
returns c =
    record {
      switched = record {
        temp = kept _ _ _ _ (kept _ _ _ _ c.requires.temp c.in_ok-value.ensures.grown) c.in_ok-answer.ensures.grown;
        value = kept _ _ _ _ c.in_ok-value.ensures.has c.in_ok-answer.ensures.grown;
        answer = c.in_ok-answer.ensures.has;
      };
      grown = grown_then _ _ _ c.in_ok-value.ensures.grown c.in_ok-answer.ensures.grown;
      adds = adds_then c.in_ok-value.ensures.adds c.in_ok-answer.ensures.adds;
      spent = spent_then c.in_ok-value.ensures.spent c.in_ok-answer.ensures.spent;
      is = (λ end. compared_none end c.in_ok-value.ensures.next c.in_ok-answer.ensures.next
          c.in_ok-answer.ensures.has c.in_ok-value.ensures.emits c.in_ok-answer.ensures.emits);
    }

pub returns-in_err-value : goal.returns-in_err-value
returns-in_err-value c =
    let e = c.from_residual.ensures.0 in
    record {
      adds = fails _ _ e;
      grown = fails _ _ e;
      is = fails _ _ e;
      spent = fails _ _ e;
      switched = fails _ _ e;
    }

pub returns-in_err-answer : goal.returns-in_err-answer
returns-in_err-answer c =
    let e = c.from_residual-in_err-answer.ensures.0 in
    record {
      adds = fails _ _ e;
      grown = fails _ _ e;
      is = fails _ _ e;
      spent = fails _ _ e;
      switched = fails _ _ e;
    }
