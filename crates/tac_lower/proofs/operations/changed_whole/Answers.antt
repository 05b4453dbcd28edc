use Rattle.tac_emit.proofs.Spending.{spent_then, spent_within}
use Rattle.std.proofs.Common.{◌≡◌, ◌∙◌, sym, subst, arith}
use Rattle.std.proofs.lemmas.Result.{IfOk-weaker, IfOk-from_err as fails}
use Rattle.tac_ir.specs.declared.code.TacKind.TheVariants as kinds
use Rattle.tac_emit.specs.Emitted.{HasKind}
use Rattle.tac_emit.proofs.Wells.{grown_then, adds_then, adds_within, kept}
use Rattle.tac_lower.proofs.Constants.{kept_count, kinds_agree}
use Rattle.tac_lower.proofs.Operating.{changed_alike_emits, changed_apart_emits}
use Rattle.tac_lower.proofs.operations.changed_whole.Goals as goal

pub int-requires-clause-to : goal.int-requires-clause-to
int-requires-clause-to c =
    let e : c.args.x.kind ≡ kinds.Int c.args.kind = kinds_agree _ _ (sym c.same_kind.ensures ∙ c.if-same_kind.true) in
    subst (λ z. HasKind c.right_operand.new.out c.args.to z) e (kept _ _ _ _ c.requires.to c.in_ok-b.ensures.grown)

pub int-requires-clause-left : goal.int-requires-clause-left
int-requires-clause-left c =
    let e : c.args.x.kind ≡ kinds.Int c.args.kind = kinds_agree _ _ (sym c.same_kind.ensures ∙ c.if-same_kind.true) in
    subst (λ z. HasKind c.right_operand.new.out c.args.x.temp z) e (kept _ _ _ _ c.requires.x c.in_ok-b.ensures.grown)

pub returns-then-same_kind : goal.returns-then-same_kind
returns-then-same_kind c =
    record {
      grown = IfOk-weaker c.int.result _ _ (λ r g. grown_then _ _ _ c.in_ok-b.ensures.grown g) c.int.ensures.grown;
      adds = IfOk-weaker c.int.result _ _
          (λ r g. adds_within (adds_then c.in_ok-b.ensures.adds g) (omega arith)) c.int.ensures.adds;
      spent = IfOk-weaker c.int.result _ _
          (λ r g. spent_within (spent_then c.in_ok-b.ensures.spent g) (omega arith) (omega arith)) c.int.ensures.spent;
      emits = IfOk-weaker c.int.result _ _
          (λ r g. changed_alike_emits _ _ _ (sym c.same_kind.ensures ∙ c.if-same_kind.true) c.in_ok-b.ensures.temp
          c.in_ok-b.ensures.emits g) c.int.ensures.emits;
    }

pub fresh_conversion-requires-clause-from : goal.fresh_conversion-requires-clause-from
fresh_conversion-requires-clause-from c = kept _ _ _ _ c.requires.x c.in_ok-b.ensures.grown

pub int-requires-2-clause-right : goal.int-requires-2-clause-right
int-requires-2-clause-right c =
    kept_count _ _ _ _ _ (c.in_ok-b.ensures.count c.args.kind c.requires.right) c.in_ok-u.ensures.grown

pub convert-requires-clause-to : goal.convert-requires-clause-to
convert-requires-clause-to c =
    kept _ _ _ _ c.requires.to (grown_then _ _ _
    (grown_then _ _ _ c.in_ok-b.ensures.grown c.in_ok-u.ensures.grown) c.in_ok-int.ensures.grown)

pub convert-requires-clause-from : goal.convert-requires-clause-from
convert-requires-clause-from c = kept _ _ _ _ c.in_ok-u.ensures.has c.in_ok-int.ensures.grown

pub returns : goal.returns
returns c =
    record {
      grown = IfOk-weaker c.convert.result _ _
          (λ r g. grown_then _ _ _ (grown_then _ _ _
          (grown_then _ _ _ c.in_ok-b.ensures.grown c.in_ok-u.ensures.grown) c.in_ok-int.ensures.grown) g)
          c.convert.ensures.grown;
      adds = IfOk-weaker c.convert.result _ _
          (λ r g. adds_then (adds_then (adds_then c.in_ok-b.ensures.adds c.in_ok-u.ensures.adds)
          c.in_ok-int.ensures.adds)
          g) c.convert.ensures.adds;
      spent = IfOk-weaker c.convert.result _ _
          (λ r g. spent_then (spent_then (spent_then c.in_ok-b.ensures.spent c.in_ok-u.ensures.spent)
          c.in_ok-int.ensures.spent) g) c.convert.ensures.spent;
      emits = IfOk-weaker c.convert.result _ _
          (λ r g. changed_apart_emits _ _ (sym c.same_kind.ensures ∙ c.if-same_kind.false) c.in_ok-b.ensures.temp
          c.in_ok-u.ensures.next c.in_ok-b.ensures.emits c.in_ok-u.ensures.emits c.in_ok-int.ensures.emits g)
          c.convert.ensures.emits;
    }

pub int-requires-clause-right : goal.int-requires-clause-right
int-requires-clause-right c = c.in_ok-b.ensures.count c.args.kind c.requires.right

pub returns-in_err-b : goal.returns-in_err-b
returns-in_err-b c =
    let e = c.from_residual.ensures.0 in
    record {
      adds = fails _ _ e;
      emits = fails _ _ e;
      grown = fails _ _ e;
      spent = fails _ _ e;
    }

pub returns-in_err-int : goal.returns-in_err-int
returns-in_err-int c =
    let e = c.from_residual-in_err-int.ensures.0 in
    record {
      adds = fails _ _ e;
      emits = fails _ _ e;
      grown = fails _ _ e;
      spent = fails _ _ e;
    }

pub returns-in_err-u : goal.returns-in_err-u
returns-in_err-u c =
    let e = c.from_residual-in_err-u.ensures.0 in
    record {
      adds = fails _ _ e;
      emits = fails _ _ e;
      grown = fails _ _ e;
      spent = fails _ _ e;
    }
