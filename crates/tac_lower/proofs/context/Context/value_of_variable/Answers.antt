use Rattle.tac_lower.proofs.Housing.{value_home}
use Rattle.tac_lower.proofs.context.Context.value_of_variable.Goals as goal

pub returns-in-Some-Temp-clause-has : goal.returns-in-Some-Temp-clause-has
returns-in-Some-Temp-clause-has c = λ d e v h there. value_home c.args.self.p.now d c.args.self.homes.now e c.args.x
    c.in-Some-Temp.t c.in-Some-Temp.field-0-1 v h (cc) there
