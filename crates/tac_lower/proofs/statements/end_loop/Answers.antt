use Rattle.std.proofs.lemmas.Result.{IfOk-weaker, IfOk-from_err as fails}
use Rattle.tac_lower.proofs.statements.end_loop.Goals as goal

pub returns-clause-turned : goal.returns-clause-turned
returns-clause-turned c =
    IfOk-weaker c.stand.result _ _
    (λ r h. record { middle = c.turn_back.new.self; leads = c.in_ok-turn_back.ensures.grown; stands = h })
    c.stand.ensures.stands

pub returns-in_err-turn_back : goal.returns-in_err-turn_back
returns-in_err-turn_back c =
    let e = c.from_residual.ensures.0 in
    record {
      adds = fails _ _ e;
      emits = fails _ _ e;
      spent = fails _ _ e;
      turned = fails _ _ e;
    }
