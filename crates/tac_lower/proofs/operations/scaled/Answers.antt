use Rattle.std.proofs.lemmas.Result.{IfOk-from_err as fails}
use Rattle.tac_emit.proofs.Spending.{spent_then, spent_within}
use Rattle.std.proofs.Common.{arith, subst, sym, refl}
use Rattle.tac_ir.specs.declared.code.TacKind.TheVariants as kinds
use Rattle.tac_emit.specs.Emitted.{IsWide}
use Rattle.tac_emit.proofs.Wells.{grown_then, adds_then, kept}
use Rattle.tac_lower.proofs.Constants.{wide_fits, wide_is}
use Rattle.tac_lower.proofs.Operating.{scaled_wide_emits, scaled_emits}
use Rattle.std.proofs.Common.{◌∙◌}
use Rattle.tac_lower.proofs.operations.scaled.Goals as goal

pub fresh_constant-requires-clause-value : goal.fresh_constant-requires-clause-value
fresh_constant-requires-clause-value c =
    wide_fits c.wide_kind-kind.result c.args.by
    (subst (λ z. IsWide (kinds.Int z)) (sym c.wide_kind-kind.ensures) (wide_is c.args.i.kind)) (omega arith)

pub fresh_constant-requires-else-is_wide-clause-value : goal.fresh_constant-requires-else-is_wide-clause-value
fresh_constant-requires-else-is_wide-clause-value c =
    wide_fits c.wide_kind-kind.result c.args.by
    (subst (λ z. IsWide (kinds.Int z)) (sym c.wide_kind-kind.ensures) (wide_is c.args.i.kind)) (omega arith)

pub returns-in_ok-int-clause-bytes : goal.returns-in_ok-int-clause-bytes
returns-in_ok-int-clause-bytes c =
    record {
      kind = kinds.Int c.wide_kind-kind.result;
      has = kept _ _ _ _ c.in_ok-to.ensures.has c.in_ok-int.ensures.grown;
      is = refl;
    }

pub int-requires-else-is_wide-clause-to : goal.int-requires-else-is_wide-clause-to
int-requires-else-is_wide-clause-to c = kept _ _ _ _ c.in_ok-n.ensures.has c.in_ok-size-2.ensures.grown

pub int-requires-else-is_wide-clause-left : goal.int-requires-else-is_wide-clause-left
int-requires-else-is_wide-clause-left c = kept _ _ _ _ c.in_ok-n.ensures.has c.in_ok-size-2.ensures.grown

pub returns-in_ok-int-clause-grown : goal.returns-in_ok-int-clause-grown
returns-in_ok-int-clause-grown c =
    grown_then _ _ _ (grown_then _ _ _ c.in_ok-size.ensures.grown c.in_ok-to.ensures.grown) c.in_ok-int.ensures.grown

pub returns-in_ok-int-2-clause-grown : goal.returns-in_ok-int-2-clause-grown
returns-in_ok-int-2-clause-grown c =
    grown_then _ _ _ (grown_then _ _ _ c.in_ok-n.ensures.grown c.in_ok-size-2.ensures.grown)
    c.in_ok-int-2.ensures.grown

pub returns-in_ok-int-clause-emits : goal.returns-in_ok-int-clause-emits
returns-in_ok-int-clause-emits c =
    scaled_wide_emits _ c.wide_kind-kind.ensures
    (sym c.is_wide.ensures.is ∙ c.if-is_wide.true) c.in_ok-size.ensures.next c.in_ok-to.ensures.next
    c.in_ok-size.ensures.emits c.in_ok-to.ensures.emits c.in_ok-int.ensures.emits

pub returns-in_ok-int-2-clause-emits : goal.returns-in_ok-int-2-clause-emits
returns-in_ok-int-2-clause-emits c =
    scaled_emits _ c.wide_kind-kind.ensures (sym c.is_wide.ensures.is ∙ c.if-is_wide.false) c.in_ok-n.ensures.next
    c.in_ok-size-2.ensures.next
    c.in_ok-n.ensures.emits c.in_ok-size-2.ensures.emits c.in_ok-int-2.ensures.emits

pub int-requires-clause-right : goal.int-requires-clause-right
int-requires-clause-right c = kept _ _ _ _ c.in_ok-size.ensures.has c.in_ok-to.ensures.grown

pub returns-in_ok-int-clause-spent : goal.returns-in_ok-int-clause-spent
returns-in_ok-int-clause-spent c =
    spent_within (spent_then (spent_then c.in_ok-size.ensures.spent c.in_ok-to.ensures.spent)
    c.in_ok-int.ensures.spent) (omega arith)
    (omega arith)

pub returns-in_ok-int-clause-adds : goal.returns-in_ok-int-clause-adds
returns-in_ok-int-clause-adds c =
    (adds_then (adds_then c.in_ok-size.ensures.adds c.in_ok-to.ensures.adds) c.in_ok-int.ensures.adds)

pub returns-in_ok-int-2-clause-spent : goal.returns-in_ok-int-2-clause-spent
returns-in_ok-int-2-clause-spent c =
    spent_then (spent_then c.in_ok-n.ensures.spent c.in_ok-size-2.ensures.spent)
    (c.in_ok-int-2.ensures.wide
    (subst (λ z. IsWide (kinds.Int z)) (sym c.wide_kind-kind.ensures) (wide_is c.args.i.kind)))

pub returns-in_ok-int-2-clause-adds : goal.returns-in_ok-int-2-clause-adds
returns-in_ok-int-2-clause-adds c =
    (adds_then (adds_then c.in_ok-n.ensures.adds c.in_ok-size-2.ensures.adds) c.in_ok-int-2.ensures.adds)

pub returns-in_ok-int-2-clause-bytes : goal.returns-in_ok-int-2-clause-bytes
returns-in_ok-int-2-clause-bytes c = record {
  kind = kinds.Int c.wide_kind-kind.result;
  has = kept _ _ _ _ (kept _ _ _ _ c.in_ok-n.ensures.has c.in_ok-size-2.ensures.grown) c.in_ok-int-2.ensures.grown;
  is = refl;
}

pub returns-in_err-size : goal.returns-in_err-size
returns-in_err-size c =
    let e = c.from_residual.ensures.0 in
    record {
      adds = fails _ _ e;
      bytes = fails _ _ e;
      emits = fails _ _ e;
      grown = fails _ _ e;
      spent = fails _ _ e;
      temp = fails _ _ e;
    }

pub returns-in_err-to : goal.returns-in_err-to
returns-in_err-to c =
    let e = c.from_residual-in_err-to.ensures.0 in
    record {
      adds = fails _ _ e;
      bytes = fails _ _ e;
      emits = fails _ _ e;
      grown = fails _ _ e;
      spent = fails _ _ e;
      temp = fails _ _ e;
    }

pub returns-in_err-int : goal.returns-in_err-int
returns-in_err-int c =
    let e = c.from_residual-in_err-int.ensures.0 in
    record {
      adds = fails _ _ e;
      bytes = fails _ _ e;
      emits = fails _ _ e;
      grown = fails _ _ e;
      spent = fails _ _ e;
      temp = fails _ _ e;
    }

pub returns-in_err-n : goal.returns-in_err-n
returns-in_err-n c =
    let e = c.from_residual-in_err-n.ensures.0 in
    record {
      adds = fails _ _ e;
      bytes = fails _ _ e;
      emits = fails _ _ e;
      grown = fails _ _ e;
      spent = fails _ _ e;
      temp = fails _ _ e;
    }

pub returns-in_err-size-2 : goal.returns-in_err-size-2
returns-in_err-size-2 c =
    let e = c.from_residual-in_err-size-2.ensures.0 in
    record {
      adds = fails _ _ e;
      bytes = fails _ _ e;
      emits = fails _ _ e;
      grown = fails _ _ e;
      spent = fails _ _ e;
      temp = fails _ _ e;
    }

pub returns-in_err-int-2 : goal.returns-in_err-int-2
returns-in_err-int-2 c =
    let e = c.from_residual-in_err-int-2.ensures.0 in
    record {
      adds = fails _ _ e;
      bytes = fails _ _ e;
      emits = fails _ _ e;
      grown = fails _ _ e;
      spent = fails _ _ e;
      temp = fails _ _ e;
    }
