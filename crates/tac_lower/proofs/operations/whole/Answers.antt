use Rattle.tac_emit.proofs.Spending.{spent_then}
use Rattle.std.proofs.lemmas.Result.{IfOk-weaker, IfOk-from_err as fails}
use Rattle.tac_emit.proofs.Wells.{grown_then, adds_then, kept}
use Rattle.tac_lower.proofs.Operating.{whole_emits}
use Rattle.tac_lower.proofs.operations.whole.Goals as goal

pub returns : goal.returns
returns c =
    record {
      grown = IfOk-weaker c.int.result _ _
          (λ r g. grown_then _ _ _ c.in_ok-b.ensures.grown g) c.int.ensures.grown;
      adds = IfOk-weaker c.int.result _ _
          (λ r g. adds_then c.in_ok-b.ensures.adds g) c.int.ensures.adds;
      spent = IfOk-weaker c.int.result _ _
          (λ r g. spent_then c.in_ok-b.ensures.spent g) c.int.ensures.spent;
      emits = IfOk-weaker c.int.result _ _
          (λ r g. whole_emits _ _ c.in_ok-b.ensures.temp c.in_ok-b.ensures.emits g) c.int.ensures.emits;
    }

pub int-requires-clause-left : goal.int-requires-clause-left
int-requires-clause-left c = kept _ _ _ _ c.requires.a c.in_ok-b.ensures.grown

pub int-requires-clause-to : goal.int-requires-clause-to
int-requires-clause-to c = kept _ _ _ _ c.requires.to c.in_ok-b.ensures.grown

pub int-requires-clause-right : goal.int-requires-clause-right
int-requires-clause-right c = c.in_ok-b.ensures.count _ c.requires.right

pub returns-in_err-b : goal.returns-in_err-b
returns-in_err-b c =
    let e = c.from_residual.ensures.0 in
    record {
      adds = fails _ _ e;
      emits = fails _ _ e;
      grown = fails _ _ e;
      spent = fails _ _ e;
    }
