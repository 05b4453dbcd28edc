use Rattle.std.proofs.lemmas.Result.{IfOk-from_err as fails}
use Rattle.tac_emit.specs.Emitted.{HasKind, CountFits}
use Rattle.std.proofs.Common.{subst, sym}
use Rattle.tac_emit.proofs.Wells.{kept, grown_then}
use Rattle.tac_lower.proofs.Constants.{one_fits}
use Rattle.tac_lower.proofs.operations.stepped_apart.Goals as goal

pub constant-requires-clause-value : goal.constant-requires-clause-value
constant-requires-clause-value c = one_fits c.args.x.kind

pub int-requires-clause-left : goal.int-requires-clause-left
int-requires-clause-left c =
    subst (λ z. HasKind c.constant.new.self c.args.x.temp z) c.in-Int.is
    (kept _ _ _ _ (kept _ _ _ _ c.requires.x c.in_ok-to.ensures.grown) c.in_ok-constant-in-Int.ensures.grown)

pub int-requires-clause-to : goal.int-requires-clause-to
int-requires-clause-to c =
    subst (λ z. HasKind c.constant.new.self c.in_ok-to.to z) c.in-Int.is
    (kept _ _ _ _ c.in_ok-to.ensures.has c.in_ok-constant-in-Int.ensures.grown)

pub int-requires-clause-right : goal.int-requires-clause-right
int-requires-clause-right c =
    let here = subst (λ z. HasKind c.constant.new.self c.in_ok-to.to z) c.in-Int.is
    (kept _ _ _ _ c.in_ok-to.ensures.has c.in_ok-constant-in-Int.ensures.grown) in
    subst (λ z. CountFits c.constant.new.self z c.in-Int.kind c.in_ok-to.to) (sym c.step_of.ensures.plain) here

pub returns-in_ok-int-in-Int-clause-has : goal.returns-in_ok-int-in-Int-clause-has
returns-in_ok-int-in-Int-clause-has c =
    kept _ _ _ _ (kept _ _ _ _ c.in_ok-to.ensures.has c.in_ok-constant-in-Int.ensures.grown)
    c.in_ok-int-in-Int.ensures.grown

pub returns-in_ok-int-in-Int-clause-grown : goal.returns-in_ok-int-in-Int-clause-grown
returns-in_ok-int-in-Int-clause-grown c =
    grown_then _ _ _ (grown_then _ _ _ c.in_ok-to.ensures.grown c.in_ok-constant-in-Int.ensures.grown)
    c.in_ok-int-in-Int.ensures.grown

pub returns-in_ok-moved_by-in-Cap-clause-grown : goal.returns-in_ok-moved_by-in-Cap-clause-grown
returns-in_ok-moved_by-in-Cap-clause-grown c =
    grown_then _ _ _ c.in_ok-to.ensures.grown c.in_ok-moved_by-in-Cap.ensures.grown

pub returns-in_err-to : goal.returns-in_err-to
returns-in_err-to c =
    let e = c.from_residual.ensures.0 in
    record {
      adds = fails _ _ e;
      emits = fails _ _ e;
      grown = fails _ _ e;
      has = fails _ _ e;
      next = fails _ _ e;
      spent = fails _ _ e;
    }

pub returns-in_err-constant-in-Int : goal.returns-in_err-constant-in-Int
returns-in_err-constant-in-Int c =
    let e = c.from_residual-in_err-constant-in-Int.ensures.0 in
    record {
      adds = fails _ _ e;
      emits = fails _ _ e;
      grown = fails _ _ e;
      has = fails _ _ e;
      next = fails _ _ e;
      spent = fails _ _ e;
    }

pub returns-in_err-int-in-Int : goal.returns-in_err-int-in-Int
returns-in_err-int-in-Int c =
    let e = c.from_residual-in_err-int-in-Int.ensures.0 in
    record {
      adds = fails _ _ e;
      emits = fails _ _ e;
      grown = fails _ _ e;
      has = fails _ _ e;
      next = fails _ _ e;
      spent = fails _ _ e;
    }

pub returns-in_err-moved_by-in-Cap : goal.returns-in_err-moved_by-in-Cap
returns-in_err-moved_by-in-Cap c =
    let e = c.from_residual-in_err-moved_by-in-Cap.ensures.0 in
    record {
      adds = fails _ _ e;
      emits = fails _ _ e;
      grown = fails _ _ e;
      has = fails _ _ e;
      next = fails _ _ e;
      spent = fails _ _ e;
    }
