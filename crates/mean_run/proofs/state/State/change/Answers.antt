use Rattle.mean_run.proofs.Finishing.{compound_is, same_act}
use Rattle.mean_run.proofs.state.State.change.Goals as goal

pub returns-in-Ok-clause-does : goal.returns-in-Ok-clause-does
returns-in-Ok-clause-does g c = λ p o j k old x y is_op is_place is_computed is_old.
    let ops = g.B.Operations.meaning c.args.m.now in
    let held = g.B.Operations.held c.args.m.now in
    rw (← is_op, ← is_place, ← is_computed, ← is_old) (same_act _ _ _ c.change_to.result
    (compound_is ops p held c.args.self.now c.take-y.new.self c.take_place-to.new.self c.take-y.result
    c.take_place-to.result c.take-y.ensures.state c.take_place-to.ensures.state c.take_place-to.ensures.place
    c.args.pos _ _ _ _ x y _ c.in-Ok.ensures c.take-y.ensures.value)
    (c.change_to.ensures.does p))
