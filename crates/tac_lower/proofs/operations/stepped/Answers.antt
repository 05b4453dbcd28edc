use Rattle.tac_emit.specs.Emitted.{HasKind}
use Rattle.std.proofs.Common.{refl, subst}
use Rattle.tac_emit.proofs.Spending.{spent_then}
use Rattle.std.proofs.lemmas.Result.{IfOk-weaker, IfOk-from_err as fails}
use Rattle.tac_emit.proofs.Wells.{grown_then, adds_then, kept}
use Rattle.tac_lower.proofs.Constants.{one_fits}
use Rattle.tac_lower.proofs.Operating.{stepped_emits}
use Rattle.tac_lower.proofs.operations.stepped.Goals as goal

pub fresh_constant-requires-clause-value : goal.fresh_constant-requires-clause-value
fresh_constant-requires-clause-value c = one_fits c.args.x.kind

pub returns-in_ok-one-in-Int : goal.returns-in_ok-one-in-Int
returns-in_ok-one-in-Int c =
    record {
      grown = IfOk-weaker c.int.result _ _ (λ r g. grown_then _ _ _ c.in_ok-one-in-Int.ensures.grown g)
          c.int.ensures.grown;
      adds = IfOk-weaker c.int.result _ _
          (λ r g. adds_then c.in_ok-one-in-Int.ensures.adds g) c.int.ensures.adds;
      spent = IfOk-weaker c.int.result _ _
          (λ r g. spent_then (c.in_ok-one-in-Int.ensures.short refl) g) c.int.ensures.spent;
      emits = IfOk-weaker c.int.result _ _ (λ r g. λ o p. stepped_emits _ o c.in-Int.is c.in_ok-one-in-Int.ensures.next
          c.step_of.ensures.up c.step_of.ensures.down c.in_ok-one-in-Int.ensures.emits g p) c.int.ensures.emits;
    }

pub int-requires-clause-left : goal.int-requires-clause-left
int-requires-clause-left c = subst (λ z. HasKind c.fresh_constant.new.self c.args.x.temp z) c.in-Int.is
    (kept _ _ _ _ c.requires.x c.in_ok-one-in-Int.ensures.grown)

pub int-requires-clause-to : goal.int-requires-clause-to
int-requires-clause-to c = subst (λ z. HasKind c.fresh_constant.new.self c.args.to z) c.in-Int.is
    (kept _ _ _ _ c.requires.to c.in_ok-one-in-Int.ensures.grown)

pub returns-in_err-one-in-Int : goal.returns-in_err-one-in-Int
returns-in_err-one-in-Int c =
    let e = c.from_residual.ensures.0 in
    record {
      adds = fails _ _ e;
      emits = fails _ _ e;
      grown = fails _ _ e;
      spent = fails _ _ e;
    }
