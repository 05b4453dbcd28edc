use Rattle.tac_emit.proofs.Spending.{spent_then}
use Rattle.std.proofs.lemmas.Result.{IfOk-weaker, IfOk-from_err as fails}
use Rattle.tac_emit.proofs.Wells.{grown_then, adds_then, as_temp, kept}
use Rattle.tac_lower.proofs.Cases.{compare_emits}
use Rattle.tac_lower.proofs.switches.compare.Goals as goal

pub returns : goal.returns
returns c =
    record {
      grown = IfOk-weaker c.branch-out.result _ _
          (λ r g. grown_then _ _ _ (grown_then _ _ _ c.in_ok-constant.ensures.grown c.in_ok-compare.ensures.grown) g)
          c.branch-out.ensures.grown;
      adds = IfOk-weaker c.branch-out.result _ _
          (λ r g. adds_then (adds_then c.in_ok-constant.ensures.adds c.in_ok-compare.ensures.adds) g)
          c.branch-out.ensures.adds;
      spent = IfOk-weaker c.branch-out.result _ _
          (λ r g. spent_then (spent_then c.in_ok-constant.ensures.spent c.in_ok-compare.ensures.spent) g)
          c.branch-out.ensures.spent;
      emits = IfOk-weaker c.branch-out.result _ _
          (λ r g. compare_emits c.args.s c.args.n c.args.label c.kept.ensures.is c.in_ok-constant.ensures.emits
          c.in_ok-compare.ensures.emits g) c.branch-out.ensures.emits;
    }

pub compare-requires-clause-left : goal.compare-requires-clause-left
compare-requires-clause-left c = kept _ _ _ _ c.requires.switched.temp c.in_ok-constant.ensures.grown

pub compare-requires-clause-right : goal.compare-requires-clause-right
compare-requires-clause-right c = kept _ _ _ _ c.requires.switched.value c.in_ok-constant.ensures.grown

pub constant-requires-clause-value : goal.constant-requires-clause-value
constant-requires-clause-value c = c.kept.ensures.fits

pub compare-requires-clause-to : goal.compare-requires-clause-to
compare-requires-clause-to c = kept _ _ _ _ c.requires.switched.answer c.in_ok-constant.ensures.grown

pub branch-out-requires-clause-temp : goal.branch-out-requires-clause-temp
branch-out-requires-clause-temp c =
    as_temp _ _ _ (kept _ _ _ _ (kept _ _ _ _ c.requires.switched.answer c.in_ok-constant.ensures.grown)
    c.in_ok-compare.ensures.grown)

pub returns-in_err-constant : goal.returns-in_err-constant
returns-in_err-constant c =
    let e = c.from_residual.ensures.0 in
    record {
      adds = fails _ _ e;
      emits = fails _ _ e;
      grown = fails _ _ e;
      spent = fails _ _ e;
    }

pub returns-in_err-compare : goal.returns-in_err-compare
returns-in_err-compare c =
    let e = c.from_residual-in_err-compare.ensures.0 in
    record {
      adds = fails _ _ e;
      emits = fails _ _ e;
      grown = fails _ _ e;
      spent = fails _ _ e;
    }
