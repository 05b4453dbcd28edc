use Rattle.std.proofs.Common.{refl}
use Rattle.tac_emit.proofs.Spending.{spent_then}
use Rattle.std.proofs.lemmas.Result.{IfOk-weaker, IfOk-from_err as fails}
use Rattle.tac_emit.proofs.Wells.{grown_then, adds_then}
use Rattle.tac_lower.proofs.Operating.{signed_emits}
use Rattle.tac_lower.proofs.operations.signed_capability.Goals as goal

pub returns : goal.returns
returns c =
    record {
      grown = IfOk-weaker c.work.result _ _ (λ r g. grown_then _ _ _
          (grown_then _ _ _ c.in_ok-n.ensures.grown c.in_ok-signed_integer.ensures.grown) g) c.work.ensures.grown;
      adds = IfOk-weaker c.work.result _ _
          (λ r g. adds_then (adds_then c.in_ok-n.ensures.adds c.in_ok-signed_integer.ensures.adds) g)
          c.work.ensures.adds;
      spent = IfOk-weaker c.work.result _ _
          (λ r g. spent_then (spent_then (c.in_ok-n.ensures.address c.requires.capability tt)
          (c.in_ok-signed_integer.ensures.wide refl)) g)
          c.work.ensures.spent;
      emits = IfOk-weaker c.work.result _ _
          (λ r g. signed_emits _ _ c.requires.capability c.in_ok-n.ensures.next c.in_ok-n.ensures.emits
          c.in_ok-signed_integer.ensures.emits g) c.work.ensures.emits;
    }

pub returns-in_err-n : goal.returns-in_err-n
returns-in_err-n c =
    let e = c.from_residual.ensures.0 in
    record {
      adds = fails _ _ e;
      emits = fails _ _ e;
      grown = fails _ _ e;
      spent = fails _ _ e;
    }

pub returns-in_err-signed_integer : goal.returns-in_err-signed_integer
returns-in_err-signed_integer c =
    let e = c.from_residual-in_err-signed_integer.ensures.0 in
    record {
      adds = fails _ _ e;
      emits = fails _ _ e;
      grown = fails _ _ e;
      spent = fails _ _ e;
    }
