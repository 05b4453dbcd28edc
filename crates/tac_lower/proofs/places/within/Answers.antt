use Rattle.std.proofs.lemmas.Result.{IfOk-from_err as fails}
use Rattle.tac_lower.proofs.Keeping.{two_pointers}
use Rattle.tac_emit.proofs.Wells.{grown_then, kept}
use Rattle.tac_lower.proofs.places.within.Goals as goal

pub offset-requires-clause-same : goal.offset-requires-clause-same
offset-requires-clause-same c =
    two_pointers c.in_ok-t.ensures.has (kept _ _ _ _ c.requires.base c.in_ok-t.ensures.grown)

pub returns-clause-has : goal.returns-clause-has
returns-clause-has c = kept _ _ _ _ c.in_ok-t.ensures.has c.in_ok-offset.ensures.grown

pub returns-clause-grown : goal.returns-clause-grown
returns-clause-grown c = grown_then _ _ _ c.in_ok-t.ensures.grown c.in_ok-offset.ensures.grown

pub returns-in_err-t : goal.returns-in_err-t
returns-in_err-t c =
    let e = c.from_residual.ensures.0 in
    record {
      adds = fails _ _ e;
      grown = fails _ _ e;
      has = fails _ _ e;
      is = fails _ _ e;
      spent = fails _ _ e;
    }

pub returns-in_err-offset : goal.returns-in_err-offset
returns-in_err-offset c =
    let e = c.from_residual-in_err-offset.ensures.0 in
    record {
      adds = fails _ _ e;
      grown = fails _ _ e;
      has = fails _ _ e;
      is = fails _ _ e;
      spent = fails _ _ e;
    }
