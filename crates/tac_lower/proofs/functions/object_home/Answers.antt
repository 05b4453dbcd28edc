use Rattle.std.proofs.lemmas.Result.{IfOk-from_err as fails}
use Rattle.tac_lower.proofs.Homes.{below}
use Rattle.tac_lower.proofs.functions.object_home.Goals as goal

pub returns-clause-home : goal.returns-clause-home
returns-clause-home c = λ p d v lt. (c.in_ok-t.ensures.has, below _ _ lt)

pub returns-in_err-t : goal.returns-in_err-t
returns-in_err-t c =
    let e = c.from_residual.ensures.0 in
    record {
      added = fails _ _ e;
      adds = fails _ _ e;
      grown = fails _ _ e;
      home = fails _ _ e;
      next = fails _ _ e;
      numbered = fails _ _ e;
      spent = fails _ _ e;
    }
