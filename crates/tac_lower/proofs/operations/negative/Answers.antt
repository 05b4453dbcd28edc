use Rattle.std.proofs.Common.{refl, subst, sym}
use Rattle.tac_emit.specs.Emitted.{IsWide}
use Rattle.tac_emit.proofs.Spending.{spent_then}
use Rattle.std.proofs.lemmas.Result.{IfOk-weaker, IfOk-from_err as fails}
use Rattle.tac_emit.proofs.Wells.{grown_then, adds_then, kept}
use Rattle.tac_ir.specs.declared.code.TacKind.TheVariants as kinds
use Rattle.tac_lower.proofs.Constants.{zero_fits}
use Rattle.tac_lower.proofs.Operating.{negative_emits}
use Rattle.tac_lower.proofs.operations.negative.Goals as goal

pub fresh_constant-requires-clause-value : goal.fresh_constant-requires-clause-value
fresh_constant-requires-clause-value c = zero_fits (kinds.Int c.args.kind)

pub returns : goal.returns
returns c =
    record {
      grown = IfOk-weaker c.int.result _ _
          (λ r g. grown_then _ _ _ c.in_ok-zero.ensures.grown g) c.int.ensures.grown;
      adds = IfOk-weaker c.int.result _ _
          (λ r g. adds_then c.in_ok-zero.ensures.adds g) c.int.ensures.adds;
      spent = IfOk-weaker c.int.result _ _
          (λ r g. spent_then (c.in_ok-zero.ensures.short refl) g) c.int.ensures.spent;
      wide = (λ e. IfOk-weaker c.int.result _ _
          (λ r g. spent_then (c.in_ok-zero.ensures.short refl) g)
          (c.int.ensures.wide (subst (λ z. IsWide (kinds.Int z)) (sym e) tt)));
      emits = IfOk-weaker c.int.result _ _
          (λ r g. negative_emits c.in_ok-zero.ensures.next c.in_ok-zero.ensures.emits g) c.int.ensures.emits;
    }

pub int-requires-clause-right : goal.int-requires-clause-right
int-requires-clause-right c = kept _ _ _ _ c.requires.a c.in_ok-zero.ensures.grown

pub int-requires-clause-to : goal.int-requires-clause-to
int-requires-clause-to c = kept _ _ _ _ c.requires.to c.in_ok-zero.ensures.grown

pub returns-in_err-zero : goal.returns-in_err-zero
returns-in_err-zero c =
    let e = c.from_residual.ensures.0 in
    record {
      adds = fails _ _ e;
      emits = fails _ _ e;
      grown = fails _ _ e;
      spent = fails _ _ e;
      wide = λ q. fails _ _ e;
    }
