use Rattle.mean_run.proofs.Stating.{given_variable}
use Rattle.mean_run.proofs.state.State.initialize_variable.Goals as goal

pub returns : goal.returns
returns c = λ p ops held e.
    given_variable ops p held c.args.self.now c.take-v.new.self c.set_variable.new.self c.args.x c.take-v.result e
    c.take-v.ensures.state c.take-v.ensures.value c.set_variable.ensures
