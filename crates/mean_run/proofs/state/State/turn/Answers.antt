use Rattle.std.proofs.Common.{refl}
use Rattle.mean_steps.specs.Parts.{turn}
use Rattle.mean_run.specs.Views.{now_of}
use Rattle.mean_run.proofs.Lefts.{turns_did}
use Rattle.mean_run.proofs.state.State.turn.Goals as goal

pub returns : goal.returns
returns c = λ p held.
    let old = c.args.self.now in
    turns_did turn p old c.turn.new.left held c.turn.result (c.turn.ensures (now_of old held) refl)
