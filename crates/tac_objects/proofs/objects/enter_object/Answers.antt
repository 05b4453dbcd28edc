use Rattle.tac_emit.proofs.Wells.{adds_then}
use Rattle.std.proofs.lemmas.Result.{IfOk-weaker, IfOk-from_err as fails}
use Rattle.tac_emit.proofs.Spending.{entered_spent}
use Rattle.tac_objects.proofs.objects.enter_object.Goals as goal

pub returns : goal.returns
returns c =
    record {
      entered = IfOk-weaker c.add-2.result _ _
          (λ r h. record { middle = c.add.new.out; zero = c.in_ok-add.ensures.pushed; points = h })
          c.add-2.ensures.pushed;
      spent = IfOk-weaker c.add-2.result _ _
          (λ r h. entered_spent (record { middle = c.add.new.out; zero = c.in_ok-add.ensures.pushed; points = h }))
          c.add-2.ensures.pushed;
      adds = IfOk-weaker c.add-2.result _ _
          (λ r g. adds_then c.in_ok-add.ensures.adds g) c.add-2.ensures.adds;
    }

pub returns-in_err-add : goal.returns-in_err-add
returns-in_err-add c =
    let e = c.from_residual.ensures.0 in record { adds = fails _ _ e; entered = fails _ _ e; spent = fails _ _ e }
