use Rattle.c_elab.proofs.Opening.{named_parameter, unnamed_parameter}
use Rattle.c_elab.proofs.parameters.name_of.Goals as goal

pub returns-in-Some : goal.returns-in-Some
returns-in-Some c = λ w. named_parameter w c.args.p c.in-Some.name c.in-Some.is

pub returns-in-None : goal.returns-in-None
returns-in-None c = λ w. unnamed_parameter w c.args.p c.in-None.is
