use Rattle.std.proofs.lemmas.Result.{IfOk-from_err as fails}
use Rattle.tac_emit.specs.Emitted.{HasKind}
use Rattle.std.proofs.Common.{subst, sym}
use Rattle.tac_emit.proofs.Emitting.{made_emits}
use Rattle.tac_emit.proofs.Wells.{made_has, made_adds, made_grown}
use Rattle.tac_emit.proofs.Spending.{made_spent}
use Rattle.tac_emit.proofs.emitter.Emitter.temp.Goals as goal

pub returns-clause-grown : goal.returns-clause-grown
returns-clause-grown c = made_grown _ _ _ c.in_ok-t.ensures.made

pub returns-clause-spent : goal.returns-clause-spent
returns-clause-spent c = made_spent _ _ _ c.in_ok-t.ensures.made

pub returns-clause-has : goal.returns-clause-has
returns-clause-has c =
    subst (λ z. HasKind c.add_temp.new.self z c.args.kind) (sym c.in_ok-t.ensures.temp)
    (made_has _ _ _ c.in_ok-t.ensures.made)

pub returns-clause-adds : goal.returns-clause-adds
returns-clause-adds c = made_adds _ _ _ c.in_ok-t.ensures.made

pub returns-clause-emits : goal.returns-clause-emits
returns-clause-emits c = made_emits _ _ _ c.in_ok-t.ensures.made

pub returns-in_err-t : goal.returns-in_err-t
returns-in_err-t c =
    let e = c.from_residual.ensures.0 in
    record {
      adds = fails _ _ e;
      emits = fails _ _ e;
      grown = fails _ _ e;
      has = fails _ _ e;
      next = fails _ _ e;
      spent = fails _ _ e;
    }
