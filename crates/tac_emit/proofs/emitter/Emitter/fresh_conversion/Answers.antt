use Rattle.std.proofs.lemmas.Result.{IfOk-from_err as fails}
use Rattle.tac_emit.proofs.Emitting.{emits_then}
use Rattle.tac_emit.proofs.Spending.{spent_then}
use Rattle.tac_emit.proofs.Wells.{grown_then, kept}
use Rattle.tac_emit.proofs.emitter.Emitter.fresh_conversion.Goals as goal

pub convert-requires-clause-from : goal.convert-requires-clause-from
convert-requires-clause-from c = kept _ _ _ _ c.requires.from c.in_ok-t.ensures.grown

pub returns-clause-grown : goal.returns-clause-grown
returns-clause-grown c = grown_then _ _ _ c.in_ok-t.ensures.grown c.in_ok-convert.ensures.grown

pub returns-clause-emits : goal.returns-clause-emits
returns-clause-emits c = emits_then c.in_ok-t.ensures.emits c.in_ok-convert.ensures.emits

pub returns-clause-address : goal.returns-clause-address
returns-clause-address c = λ old new. spent_then c.in_ok-t.ensures.spent (c.in_ok-convert.ensures.address old new)

pub returns-clause-has : goal.returns-clause-has
returns-clause-has c = kept _ _ _ _ c.in_ok-t.ensures.has c.in_ok-convert.ensures.grown

pub returns-in_err-t : goal.returns-in_err-t
returns-in_err-t c =
    let e = c.from_residual.ensures.0 in
    record {
      adds = fails _ _ e;
      address = λ q w. fails _ _ e;
      emits = fails _ _ e;
      grown = fails _ _ e;
      has = fails _ _ e;
      next = fails _ _ e;
      spent = fails _ _ e;
    }

pub returns-in_err-convert : goal.returns-in_err-convert
returns-in_err-convert c =
    let e = c.from_residual-in_err-convert.ensures.0 in
    record {
      adds = fails _ _ e;
      address = λ q w. fails _ _ e;
      emits = fails _ _ e;
      grown = fails _ _ e;
      has = fails _ _ e;
      next = fails _ _ e;
      spent = fails _ _ e;
    }
