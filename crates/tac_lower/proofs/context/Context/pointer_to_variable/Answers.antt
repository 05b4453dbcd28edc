use Rattle.tac_lower.proofs.Housing.{pointer_home}
use Rattle.tac_lower.proofs.context.Context.pointer_to_variable.Goals as goal

pub returns-in-Some-Object-clause-has : goal.returns-in-Some-Object-clause-has
returns-in-Some-Object-clause-has c =
    λ d e h. pointer_home c.args.self.p.now d c.args.self.homes.now e c.args.x c.in-Some-Object.field-0-0
    c.in-Some-Object.t h cc
