use Rattle.tac_emit.proofs.Spending.{spent_then}
use Rattle.std.proofs.lemmas.Result.{IfOk-weaker, IfOk-from_err as fails}
use Rattle.tac_emit.proofs.Wells.{grown_then, adds_then}
use Rattle.tac_lower.proofs.Operating.{derived_emits}
use Rattle.tac_lower.proofs.operations.derived.Goals as goal

pub returns : goal.returns
returns c =
    record {
      grown = IfOk-weaker c.work.result _ _
          (λ r g. grown_then _ _ _ c.in_ok-n.ensures.grown g) c.work.ensures.grown;
      adds = IfOk-weaker c.work.result _ _
          (λ r g. adds_then c.in_ok-n.ensures.adds g) c.work.ensures.adds;
      spent = IfOk-weaker c.work.result _ _
          (λ r g. spent_then c.in_ok-n.ensures.spent g) c.work.ensures.spent;
      emits = IfOk-weaker c.work.result _ _
          (λ r g. derived_emits _ _ _ _ c.requires.x_kind c.in_ok-n.ensures.next c.origin-from.ensures.is
          c.in_ok-n.ensures.emits g) c.work.ensures.emits;
    }

pub returns-in_err-n : goal.returns-in_err-n
returns-in_err-n c =
    let e = c.from_residual.ensures.0 in
    record {
      adds = fails _ _ e;
      emits = fails _ _ e;
      grown = fails _ _ e;
      spent = fails _ _ e;
    }
