use Rattle.c_expressions.proofs.Keeping.{keeps_same}
use Rattle.c_operators.proofs.services.given_type.Goals as goal

pub returns-in-Argument : goal.returns-in-Argument
returns-in-Argument c = rw c.in-Argument.is
    (record { keeps = keeps_same c.args.nodes.now c.requires.whole; is = c.first_type.ensures })
