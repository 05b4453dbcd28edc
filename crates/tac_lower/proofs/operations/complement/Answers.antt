use Rattle.std.proofs.Common.{subst, sym}
use Rattle.tac_ir.specs.declared.code.TacKind.TheVariants as kinds
use Rattle.tac_emit.specs.Emitted.{IsWide}
use Rattle.tac_emit.proofs.Spending.{spent_then}
use Rattle.std.proofs.lemmas.Result.{IfOk-weaker, IfOk-from_err as fails}
use Rattle.tac_emit.proofs.Wells.{grown_then, adds_then, kept}
use Rattle.tac_lower.proofs.Operating.{complement_emits}
use Rattle.tac_lower.proofs.operations.complement.Goals as goal

pub returns : goal.returns
returns c =
    record {
      grown = IfOk-weaker c.int.result _ _
          (λ r g. grown_then _ _ _ c.in_ok-ones.ensures.grown g) c.int.ensures.grown;
      adds = IfOk-weaker c.int.result _ _
          (λ r g. adds_then c.in_ok-ones.ensures.adds g) c.int.ensures.adds;
      spent = IfOk-weaker c.int.result _ _
          (λ r g. spent_then c.in_ok-ones.ensures.spent g) c.int.ensures.spent;
      wide = (λ e. IfOk-weaker c.int.result _ _
          (λ r g. spent_then (c.in_ok-ones.ensures.short (c.all_ones.ensures.short e)) g)
          (c.int.ensures.wide (subst (λ z. IsWide (kinds.Int z)) (sym e) tt)));
      emits = IfOk-weaker c.int.result _ _
          (λ r g. complement_emits c.in_ok-ones.ensures.next c.all_ones.ensures.is c.in_ok-ones.ensures.emits g)
          c.int.ensures.emits;
    }

pub int-requires-clause-left : goal.int-requires-clause-left
int-requires-clause-left c = kept _ _ _ _ c.requires.a c.in_ok-ones.ensures.grown

pub int-requires-clause-to : goal.int-requires-clause-to
int-requires-clause-to c = kept _ _ _ _ c.requires.to c.in_ok-ones.ensures.grown

pub returns-in_err-ones : goal.returns-in_err-ones
returns-in_err-ones c =
    let e = c.from_residual.ensures.0 in
    record {
      adds = fails _ _ e;
      emits = fails _ _ e;
      grown = fails _ _ e;
      spent = fails _ _ e;
      wide = λ q. fails _ _ e;
    }
