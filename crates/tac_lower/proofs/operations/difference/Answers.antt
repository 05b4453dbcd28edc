use Rattle.tac_emit.proofs.Spending.{spent_then, spent_within}
use Rattle.std.proofs.Common.{refl, arith}
use Rattle.std.proofs.lemmas.Result.{IfOk-weaker, IfOk-from_err as fails}
use Rattle.tac_emit.proofs.Wells.{grown_then, adds_then, kept}
use Rattle.ck_int.specs.declared.kinds.IntKind.TheVariants as int
use Rattle.tac_lower.proofs.Constants.{wide_fits}
use Rattle.tac_lower.proofs.Operating.{one_apart_emits, apart_emits}
use Rattle.std.proofs.Common.{◌≡◌, true, false}
use Rattle.std.specs.Prelude.{◌==◌}
use Rattle.std.proofs.lemmas.Bool.Decides.{nat_tests}
use Rattle.tac_lower.proofs.operations.difference.Goals as goal

pub returns-then-size-eq1 : goal.returns-then-size-eq1
returns-then-size-eq1 c =
    record {
      grown = IfOk-weaker c.int.result _ _ (λ r g. grown_then _ _ _
          (grown_then _ _ _ c.in_ok-n.ensures.grown c.in_ok-m.ensures.grown) g) c.int.ensures.grown;
      adds = IfOk-weaker c.int.result _ _
          (λ r g. adds_then (adds_then c.in_ok-n.ensures.adds c.in_ok-m.ensures.adds) g) c.int.ensures.adds;
      spent = IfOk-weaker c.int.result _ _
          (λ r g. spent_within (spent_then (spent_then (c.in_ok-n.ensures.address refl tt)
          (c.in_ok-m.ensures.address refl tt)) g) (omega arith) (omega arith)) c.int.ensures.spent;
      emits = (let w : (c.args.size == 1) ≡ true = grind (arith, nat_tests) in
          IfOk-weaker c.int.result _ _
          (λ r g. one_apart_emits _ w c.in_ok-n.ensures.next c.in_ok-m.ensures.next c.in_ok-n.ensures.emits
          c.in_ok-m.ensures.emits g) c.int.ensures.emits);
    }

pub constant-requires-clause-value : goal.constant-requires-clause-value
constant-requires-clause-value c = wide_fits int.I64 c.args.size tt (omega arith)

pub returns : goal.returns
returns c =
    record {
      grown = IfOk-weaker c.int-3.result _ _
          (λ r g. grown_then _ _ _ (grown_then _ _ _
          (grown_then _ _ _ (grown_then _ _ _ c.in_ok-n.ensures.grown c.in_ok-m.ensures.grown)
          c.in_ok-int.ensures.grown)
          c.in_ok-constant.ensures.grown) g) c.int-3.ensures.grown;
      adds = IfOk-weaker c.int-3.result _ _
          (λ r g. adds_then (adds_then (adds_then (adds_then c.in_ok-n.ensures.adds c.in_ok-m.ensures.adds)
          c.in_ok-int.ensures.adds) c.in_ok-constant.ensures.adds) g) c.int-3.ensures.adds;
      spent = IfOk-weaker c.int-3.result _ _
          (λ r g. spent_then (spent_then (spent_then (spent_then (c.in_ok-n.ensures.address refl tt)
          (c.in_ok-m.ensures.address refl tt))
          c.in_ok-int.ensures.spent) c.in_ok-constant.ensures.spent) g) c.int-3.ensures.spent;
      emits = (let w : (c.args.size == 1) ≡ false = grind (arith, nat_tests) in
          IfOk-weaker c.int-3.result _ _
          (λ r g. apart_emits _ w c.in_ok-n.ensures.next c.in_ok-m.ensures.next c.in_ok-n.ensures.emits
          c.in_ok-m.ensures.emits c.in_ok-int.ensures.emits c.in_ok-constant.ensures.emits g) c.int-3.ensures.emits);
    }

pub int-requires-clause-to : goal.int-requires-clause-to
int-requires-clause-to c = kept _ _ _ _ (kept _ _ _ _ c.requires.to c.in_ok-n.ensures.grown) c.in_ok-m.ensures.grown

pub int-requires-clause-left : goal.int-requires-clause-left
int-requires-clause-left c = kept _ _ _ _ c.in_ok-n.ensures.has c.in_ok-m.ensures.grown

pub int-requires-2-clause-to : goal.int-requires-2-clause-to
int-requires-2-clause-to c = kept _ _ _ _ c.in_ok-n.ensures.has c.in_ok-m.ensures.grown

pub int-requires-2-clause-left : goal.int-requires-2-clause-left
int-requires-2-clause-left c = kept _ _ _ _ c.in_ok-n.ensures.has c.in_ok-m.ensures.grown

pub constant-requires-clause-to : goal.constant-requires-clause-to
constant-requires-clause-to c = kept _ _ _ _ c.in_ok-m.ensures.has c.in_ok-int.ensures.grown

pub int-requires-3-clause-to : goal.int-requires-3-clause-to
int-requires-3-clause-to c =
    kept _ _ _ _ (kept _ _ _ _ (kept _ _ _ _ (kept _ _ _ _ c.requires.to c.in_ok-n.ensures.grown)
    c.in_ok-m.ensures.grown) c.in_ok-int.ensures.grown) c.in_ok-constant.ensures.grown

pub int-requires-3-clause-left : goal.int-requires-3-clause-left
int-requires-3-clause-left c =
    kept _ _ _ _ (kept _ _ _ _ (kept _ _ _ _ c.in_ok-n.ensures.has c.in_ok-m.ensures.grown)
    c.in_ok-int.ensures.grown) c.in_ok-constant.ensures.grown

pub int-requires-3-clause-right : goal.int-requires-3-clause-right
int-requires-3-clause-right c =
    kept _ _ _ _ (kept _ _ _ _ c.in_ok-m.ensures.has c.in_ok-int.ensures.grown) c.in_ok-constant.ensures.grown

pub returns-in_err-n : goal.returns-in_err-n
returns-in_err-n c =
    let e = c.from_residual.ensures.0 in
    record {
      adds = fails _ _ e;
      emits = fails _ _ e;
      grown = fails _ _ e;
      spent = fails _ _ e;
    }

pub returns-in_err-m : goal.returns-in_err-m
returns-in_err-m c =
    let e = c.from_residual-in_err-m.ensures.0 in
    record {
      adds = fails _ _ e;
      emits = fails _ _ e;
      grown = fails _ _ e;
      spent = fails _ _ e;
    }

pub returns-in_err-int : goal.returns-in_err-int
returns-in_err-int c =
    let e = c.from_residual-in_err-int.ensures.0 in
    record {
      adds = fails _ _ e;
      emits = fails _ _ e;
      grown = fails _ _ e;
      spent = fails _ _ e;
    }

pub returns-in_err-constant : goal.returns-in_err-constant
returns-in_err-constant c =
    let e = c.from_residual-in_err-constant.ensures.0 in
    record {
      adds = fails _ _ e;
      emits = fails _ _ e;
      grown = fails _ _ e;
      spent = fails _ _ e;
    }
