use Rattle.std.proofs.Common.{Some, ap, sym, ◌∙◌, arith}
use Rattle.std.proofs.lemmas.Result.{IfOk-weaker}
use Rattle.tac_lower.proofs.Bodies.{temp_at, tail_entered}
use Rattle.tac_lower.proofs.Constants.{zero_fits}
use Rattle.tac_lower.proofs.Steps.{start, tail_grew}
use Rattle.tac_lower.proofs.Entering.{entered_one}
use Rattle.tac_emit.proofs.Spending.{spent_same, taken_enters, enters_within}
use Rattle.tac_lower.proofs.Zeroing.{zeroed_one}
use Rattle.tac_lower.proofs.Sites.{entered_parameter, entered_value, entered_object, no_home}
use Rattle.tac_lower.proofs.statements.enter_variable.Goals as goal

pub returns-in-None : goal.returns-in-None
returns-in-None c =
    record {
      lowered = start c.requires.scene;
      spent = enters_within (taken_enters (spent_same _ 0)) (omega arith) (omega arith) (omega arith) (λ v. omega
          arith);
      is = no_home c.args.x c.requires.scene.housed c.requires.there (sym c.home.ensures ∙ c.in-None.is);
    }

pub constant-requires-clause-to : goal.constant-requires-clause-to
constant-requires-clause-to c = temp_at c.args.x c.in-Some-Temp.t c.in-Some-Temp.kind c.requires.scene.housed
    (sym c.home.ensures ∙ (c.in-Some-Temp.is ∙ ap Some c.in-Some-Temp.field-0-is))

pub constant-requires-clause-value : goal.constant-requires-clause-value
constant-requires-clause-value c = zero_fits c.in-Some-Temp.kind

pub returns-in-Some-Temp : goal.returns-in-Some-Temp
returns-in-Some-Temp c =
    record {
      lowered = tail_grew _ _ c.constant.result (start c.requires.scene) c.constant.ensures.grown
          c.constant.ensures.adds (omega arith);
      spent = (let one = entered_one c.args.cx.d.now c.args.x
          (c.is_parameter.ensures.other c.if-is_parameter.false) c.requires.there in
          IfOk-weaker c.constant.result _ _
          (λ r h. enters_within (taken_enters h) (omega arith) (omega (arith, one)) (omega arith) (λ v. omega arith))
          c.constant.ensures.spent);
      is = IfOk-weaker c.constant.result _ _
          (λ q h. entered_value _ (sym c.home.ensures ∙ (c.in-Some-Temp.is ∙ ap Some c.in-Some-Temp.field-0-is)) h)
          c.constant.ensures.emits;
    }

pub returns-in-Some-Object : goal.returns-in-Some-Object
returns-in-Some-Object c =
    record {
      lowered = tail_entered _ c.enter_object.result c.args.x c.in-Some-Object.n c.in-Some-Object.t
          c.requires.scene (sym c.home.ensures ∙ (c.in-Some-Object.is ∙ ap Some c.in-Some-Object.field-0-is))
          c.enter_object.ensures.entered;
      spent = (let one = entered_one c.args.cx.d.now c.args.x
          (c.is_parameter.ensures.other c.if-is_parameter.false) c.requires.there in
          IfOk-weaker c.enter_object.result _ _
          (λ r h. enters_within h (omega arith) (omega (arith, one)) (omega arith)
          (λ v. omega (
            arith,
            zeroed_one c.args.cx.d.now c.args.cx.homes.now c.args.x c.in-Some-Object.n c.in-Some-Object.t v
                (c.is_parameter.ensures.other c.if-is_parameter.false)
                (sym c.home.ensures ∙ (c.in-Some-Object.is ∙ ap Some c.in-Some-Object.field-0-is)),
          )))
          c.enter_object.ensures.spent);
      is = IfOk-weaker c.enter_object.result _ _
          (λ q h. entered_object _ (sym c.home.ensures ∙ (c.in-Some-Object.is ∙ ap Some c.in-Some-Object.field-0-is))
          h)
          c.enter_object.ensures.entered;
    }

pub returns-then-is_parameter : goal.returns-then-is_parameter
returns-then-is_parameter c =
    record {
      lowered = start c.requires.scene;
      spent = enters_within (taken_enters (spent_same _ 0)) (omega arith) (omega arith) (omega arith) (λ v. omega
          arith);
      is = entered_parameter _ _ (c.is_parameter.ensures.parameter c.if-is_parameter.true);
    }
