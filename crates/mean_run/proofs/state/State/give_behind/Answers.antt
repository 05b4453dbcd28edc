use Rattle.ck_base.specs.Runs.{Goes}
use Rattle.obj_mem.specs.Values.{value_of}
use Rattle.mean_steps.specs.Machine.{turn_behind, with_value}
use Rattle.mean_run.specs.Views.{moment_of}
use Rattle.mean_run.proofs.Calling.{did_ends, did_goes}
use Rattle.mean_run.proofs.Finishing.{same_act, value_given}
use Rattle.mean_run.proofs.state.State.give_behind.Goals as goal

pub returns-in-Err : goal.returns-in-Err
returns-in-Err c = λ p held.
    let t = c.args.self.now in
    did_ends (turn_behind c.args.first) (λ (u : Unit {0}). u) p t t held held
    (λ _ m. Goes (with_value (value_of c.args.v) m)) c.in-Err.stop (moment_of p t held) (c.in-Err.ensures p held)

pub returns-in-Ok : goal.returns-in-Ok
returns-in-Ok c = λ p held.
    same_act _ _ _ c.give_value.result
    (did_goes (turn_behind c.args.first) (λ (u : Unit {0}). u) p c.args.self.now c.turn_behind.new.self held held
    (λ _ m. Goes (with_value (value_of c.args.v) m)) tt (c.in-Ok.ensures p held))
    (value_given p held c.turn_behind.new.self c.give_value.new.self c.args.v c.give_value.result c.give_value.ensures)
