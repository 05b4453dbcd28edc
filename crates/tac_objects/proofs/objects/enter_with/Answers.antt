use Rattle.std.proofs.Common.{arith}
use Rattle.std.proofs.lemmas.Result.{IfOk-weaker, IfOk-from_err as fails}
use Rattle.tac_emit.proofs.Emitting.{emits_then, entered_emits}
use Rattle.tac_emit.proofs.Spending.{enters_then, enters_within, taken_enters}
use Rattle.tac_emit.proofs.Wells.{entered_has, filled_by}
use Rattle.tac_objects.proofs.objects.enter_with.Goals as goal

pub store-requires-clause-at : goal.store-requires-clause-at
store-requires-clause-at c =
    let at = c.requires.at in
    record { kind = at.kind; has = entered_has c.in_ok-enter_object.ensures.entered at.has; is = at.is }

pub store-requires-clause-value : goal.store-requires-clause-value
store-requires-clause-value c = entered_has c.in_ok-enter_object.ensures.entered c.requires.value

pub returns : goal.returns
returns c = record {
  filled = filled_by _ c.store.result c.in_ok-enter_object.ensures.entered c.store.ensures.grown c.store.ensures.adds;
  spent = IfOk-weaker c.store.result _ _
      (λ r h. enters_within (enters_then c.in_ok-enter_object.ensures.spent (taken_enters h)) (omega arith)
      (omega arith) (omega arith) (λ v. omega arith)) c.store.ensures.spent;
  emits = IfOk-weaker c.store.result _ _
      (λ r h. emits_then (entered_emits c.in_ok-enter_object.ensures.entered) h) c.store.ensures.emits;
}

pub returns-in_err-enter_object : goal.returns-in_err-enter_object
returns-in_err-enter_object c =
    let e = c.from_residual.ensures.0 in record { filled = fails _ _ e; spent = fails _ _ e; emits = fails _ _ e }
