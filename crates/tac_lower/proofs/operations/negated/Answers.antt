use Rattle.tac_emit.proofs.Spending.{spent_then}
use Rattle.std.proofs.lemmas.Result.{IfOk-weaker, IfOk-from_err as fails}
use Rattle.tac_emit.proofs.Wells.{grown_then, adds_then, kept}
use Rattle.tac_lower.proofs.Constants.{zero_fits}
use Rattle.tac_lower.proofs.Operating.{negated_emits}
use Rattle.tac_lower.proofs.operations.negated.Goals as goal

pub fresh_constant-requires-clause-value : goal.fresh_constant-requires-clause-value
fresh_constant-requires-clause-value c = zero_fits c.args.x.kind

pub returns : goal.returns
returns c =
    record {
      grown = IfOk-weaker c.compare.result _ _
          (λ r g. grown_then _ _ _ c.in_ok-zero.ensures.grown g) c.compare.ensures.grown;
      adds = IfOk-weaker c.compare.result _ _
          (λ r g. adds_then c.in_ok-zero.ensures.adds g) c.compare.ensures.adds;
      spent = IfOk-weaker c.compare.result _ _
          (λ r g. spent_then c.in_ok-zero.ensures.spent g) c.compare.ensures.spent;
      emits = IfOk-weaker c.compare.result _ _
          (λ r g. negated_emits c.in_ok-zero.ensures.next c.in_ok-zero.ensures.emits g) c.compare.ensures.emits;
    }

pub compare-requires-clause-left : goal.compare-requires-clause-left
compare-requires-clause-left c = kept _ _ _ _ c.requires.x c.in_ok-zero.ensures.grown

pub compare-requires-clause-to : goal.compare-requires-clause-to
compare-requires-clause-to c = kept _ _ _ _ c.requires.to c.in_ok-zero.ensures.grown

pub returns-in_err-zero : goal.returns-in_err-zero
returns-in_err-zero c =
    let e = c.from_residual.ensures.0 in
    record {
      adds = fails _ _ e;
      emits = fails _ _ e;
      grown = fails _ _ e;
      spent = fails _ _ e;
    }
