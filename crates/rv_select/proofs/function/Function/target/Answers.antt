use Rattle.rv_select.specs.Choosing.{chosen}
use Rattle.rv_select.proofs.Choices.{target_left}
use Rattle.rv_select.proofs.function.Function.target.Goals as goal

pub returns-in_default : goal.returns-in_default
returns-in_default c = λ h.
    target_left (chosen c.args.self.now) c.args.t c.place.result (c.place.ensures h.homed) c.in_default.not-Register
    c.left.result c.left.ensures
