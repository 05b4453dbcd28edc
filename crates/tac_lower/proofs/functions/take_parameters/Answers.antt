use Rattle.std.proofs.lemmas.Result.{IfOk-from_err as fails}
use Rattle.std.proofs.Common.{get_or, length, ap, sym, subst, refl, arith}
use Rattle.tac_emit.specs.Emitted.{HasKind}
use Rattle.tac_lower.specs.Signed.{kept_parameter}
use Rattle.std.proofs.lemmas.List.{take_all}
use Rattle.tac_lower.specs.Programs.{taking}
use Rattle.tac_emit.specs.Adding.{Emits}
use Rattle.tac_emit.proofs.Emitting.{none_emits}
use Rattle.tac_lower.proofs.Taking.{takes_more}
use Rattle.tac_lower.proofs.Homes.{number_of}
use Rattle.tac_emit.proofs.Spending.{spent_same, taken_enters, enters_then, enters_within}
use Rattle.tac_lower.specs.Zeroed.{is_taken}
use Rattle.tac_lower.proofs.Steps.{start, both, at_most, still}
use Rattle.tac_lower.proofs.Zeroing.{taken_next, taken_some}
use Rattle.tac_lower.proofs.functions.take_parameters.Goals as goal

pub loop-x-init : goal.loop-x-init
loop-x-init c = record {
  lowered = start c.requires.scene;
  spent = enters_within (taken_enters (spent_same _ 0)) (omega arith) (omega arith) (omega arith)
      (λ v. omega arith);
  number = refl;
  takes = none_emits c.args.out.now;
}

pub take_parameter-requires-clause-scene : goal.take_parameter-requires-clause-scene
take_parameter-requires-clause-scene c = c.loop-x.invariant.lowered.scene

pub take_parameter-requires-clause-value : goal.take_parameter-requires-clause-value
take_parameter-requires-clause-value c =
    let d = c.args.d.now in
    let i = c.loop-x.x-index in
    let xs = c.as_slice-x-items.result.now in
    let has = c.requires.parameters.each i (get_or xs i 0)
    (number_of xs d.params i c.as_slice-x-items.ensures (omega arith)) in
    subst (λ z. HasKind c.loop-x.out z (kept_parameter c.args.cx.p.now d (get_or xs i 0)))
    (sym c.loop-x.invariant.number) (still has c.loop-x.invariant.lowered)

pub loop-x-preserved : goal.loop-x-preserved
loop-x-preserved c =
    let same = ap length c.as_slice-x-items.ensures in
    let number = c.loop-x.invariant.number in
    record {
      lowered = at_most (both c.loop-x.invariant.lowered c.in_ok-take_parameter.ensures.lowered)
          (omega arith);
      spent = enters_within (enters_then c.loop-x.invariant.spent c.in_ok-take_parameter.ensures.spent) (omega arith)
          (omega arith) (omega arith)
          (λ v. omega (
            arith,
            taken_next c.args.cx.homes.now c.args.d.now.params c.loop-x.x-index v (omega arith),
            ap (λ z. is_taken c.args.cx.homes.now v (get_or z c.loop-x.x-index 0)) c.as_slice-x-items.ensures,
          ));
      number = omega arith;
      takes = takes_more c.args.cx.homes.now (kept_parameter c.args.cx.p.now c.args.d.now) c.args.d.now.pos
          c.args.d.now.params c.loop-x.x-index c.loop-x.t (get_or c.as_slice-x-items.result.now c.loop-x.x-index 0)
          number (number_of c.as_slice-x-items.result.now c.args.d.now.params c.loop-x.x-index
          c.as_slice-x-items.ensures
          (omega arith)) c.loop-x.invariant.takes c.in_ok-take_parameter.ensures.takes;
    }

pub returns : goal.returns
returns c =
    record {
      lowered = c.loop-x.invariant.lowered;
      spent = (let same = ap length c.as_slice-x-items.ensures in
          enters_within c.loop-x.invariant.spent (omega arith) (omega arith) (omega arith)
          (λ v. omega (arith, taken_some c.args.cx.homes.now c.args.d.now.params c.loop-x.x-index v)));
      takes = (let same = ap length c.as_slice-x-items.ensures in
          subst (λ xs. Emits c.args.out.now c.loop-x.out 0 (taking c.args.cx.homes.now
          (kept_parameter c.args.cx.p.now c.args.d.now) c.args.d.now.pos xs 0))
          (take_all c.loop-x.x-index c.args.d.now.params (omega arith)) c.loop-x.invariant.takes);
    }

pub returns-in_err-take_parameter : goal.returns-in_err-take_parameter
returns-in_err-take_parameter c =
    let e = c.from_residual.ensures.0 in record { lowered = fails _ _ e; spent = fails _ _ e; takes = fails _ _ e }
