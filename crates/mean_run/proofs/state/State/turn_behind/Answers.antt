use Rattle.std.proofs.Common.{refl}
use Rattle.mean_steps.specs.Machine.{turn_behind}
use Rattle.mean_run.specs.Views.{now_of}
use Rattle.mean_run.proofs.Lefts.{turns_did}
use Rattle.mean_run.proofs.state.State.turn_behind.Goals as goal

pub returns : goal.returns
returns c = λ p held.
    let old = c.args.self.now in
    turns_did (turn_behind c.args.first) p old c.turn_behind.new.left held c.turn_behind.result
    (c.turn_behind.ensures (now_of old held) refl)
