use Rattle.std.proofs.Common.{arith, not, refl, ap, ◌∙◌}
use Rattle.std.proofs.lemmas.Result.{IfOk-weaker, IfOk-from_err as fails}
use Rattle.tac_lower.proofs.Assigned.{steps_variable, steps_variable_old}
use Rattle.tac_lower.proofs.Keeping.{maybe_kept, maybe_same, node_at}
use Rattle.tac_lower.proofs.Spending.{nothing, plainly, and, extra_small, owned, last_and}
use Rattle.tac_lower.proofs.Steps.{start, grew, tail_grew, still}
use Rattle.tac_emit.proofs.Wells.{kept, as_same}
use Rattle.tac_lower.proofs.expressions.variable_step.Goals as goal

pub give-requires : goal.give-requires
give-requires c = record {
  same =
      maybe_same _ c.args.to _ c.args.v.kind (maybe_kept c.args.v.kind c.args.to
      (grew (start c.requires.scene) c.in_ok-stepped.ensures.grown c.in_ok-stepped.ensures.adds) c.requires.to)
      (kept _ _ _ _ c.requires.v c.in_ok-stepped.ensures.grown);
}

pub returns-then-drops_old : goal.returns-then-drops_old
returns-then-drops_old c =
    record {
      lowered = tail_grew _ _ c.give.result (grew (start c.requires.scene) c.in_ok-stepped.ensures.grown
          c.in_ok-stepped.ensures.adds) c.give.ensures.grown c.give.ensures.adds (omega arith);
      spends = last_and _ _ _ _ c.give.result (plainly c.in_ok-stepped.ensures.spent) c.give.ensures.spent (omega
          arith)
          (omega arith) (omega arith);
      is = (let ready = c.requires.scene.ready in
          IfOk-weaker c.give.result _ _
          (λ r f k a typed st v ik. steps_variable _ ready.order ready.ordered st c.args.cx.d.now c.args.to refl
          (λ x m. node_at c.args.cx.d.now ready typed m.there m.is) v ik
          (c.drops_old.ensures ∙ ap not c.if-drops_old.true) c.in_ok-stepped.ensures.emits f) c.give.ensures.emits);
    }

pub give-requires-2 : goal.give-requires-2
give-requires-2 c = record {
  same =
      maybe_same _ c.args.to _ c.args.v.kind
      (maybe_kept c.args.v.kind c.args.to (grew
      (grew c.in_ok-old.ensures.lowered c.in_ok-copy.ensures.grown c.in_ok-copy.ensures.adds)
      c.in_ok-stepped-2.ensures.grown c.in_ok-stepped-2.ensures.adds) c.requires.to)
      (kept _ _ _ _ (kept _ _ _ _ c.in_ok-old.ensures.has c.in_ok-copy.ensures.grown) c.in_ok-stepped-2.ensures.grown);
}

pub returns : goal.returns
returns c =
    record {
      lowered = tail_grew _ _ c.give-2.result (grew (grew c.in_ok-old.ensures.lowered c.in_ok-copy.ensures.grown
          c.in_ok-copy.ensures.adds) c.in_ok-stepped-2.ensures.grown c.in_ok-stepped-2.ensures.adds)
          c.give-2.ensures.grown c.give-2.ensures.adds (omega arith);
      spends = (let small = extra_small c.args.cx.fixed c.args.to in
          last_and _ _ _ _ c.give-2.result (and (and (owned nothing c.in_ok-old.ensures.owns)
          c.in_ok-copy.ensures.spent)
          c.in_ok-stepped-2.ensures.spent)
          c.give-2.ensures.spent (omega (arith, small)) (omega arith) (omega arith));
      is = (let ready = c.requires.scene.ready in
          IfOk-weaker c.give-2.result _ _
          (λ r f k a typed st v ik. steps_variable_old _ ready.order ready.ordered st c.args.cx.d.now c.args.to _ _ _
          _ _ refl
          (λ x m. node_at c.args.cx.d.now ready typed m.there m.is) v ik (c.drops_old.ensures ∙ ap not
          c.if-drops_old.false)
          c.in_ok-old.ensures.is c.in_ok-copy.ensures.emits c.in_ok-stepped-2.ensures.emits f) c.give-2.ensures.emits);
    }

pub stepped-requires-2-clause-x : goal.stepped-requires-2-clause-x
stepped-requires-2-clause-x c =
    kept _ _ _ _ (still c.requires.v c.in_ok-old.ensures.lowered) c.in_ok-copy.ensures.grown

pub stepped-requires-2-clause-to : goal.stepped-requires-2-clause-to
stepped-requires-2-clause-to c =
    kept _ _ _ _ (still c.requires.v c.in_ok-old.ensures.lowered) c.in_ok-copy.ensures.grown

pub copy-requires : goal.copy-requires
copy-requires c =
    record { same = as_same _ _ _ _ c.in_ok-old.ensures.has (still c.requires.v c.in_ok-old.ensures.lowered) }

pub returns-in_err-old : goal.returns-in_err-old
returns-in_err-old c =
    let e = c.from_residual-in_err-old.ensures.0 in
    record { lowered = fails _ _ e; spends = fails _ _ e; is = fails _ _ e }

pub returns-in_err-copy : goal.returns-in_err-copy
returns-in_err-copy c =
    let e = c.from_residual-in_err-copy.ensures.0 in
    record { lowered = fails _ _ e; spends = fails _ _ e; is = fails _ _ e }

pub returns-in_err-stepped-2 : goal.returns-in_err-stepped-2
returns-in_err-stepped-2 c =
    let e = c.from_residual-in_err-stepped-2.ensures.0 in
    record { lowered = fails _ _ e; spends = fails _ _ e; is = fails _ _ e }

pub returns-in_err-stepped : goal.returns-in_err-stepped
returns-in_err-stepped c =
    let e = c.from_residual.ensures.0 in
    record { lowered = fails _ _ e; spends = fails _ _ e; is = fails _ _ e }
