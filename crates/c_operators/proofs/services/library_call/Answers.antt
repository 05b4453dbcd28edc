use Rattle.std.proofs.Common.{sym, ◌∙◌, map}
use Rattle.c_expressions.specs.Nodes.{IsOperand, operand_in}
use Rattle.c_expressions.proofs.Keeping.{answers_is}
use Rattle.c_operators.proofs.Asking.{no_service, service_called}
use Rattle.c_operators.proofs.services.library_call.Goals as goal

pub returns-in-None : goal.returns-in-None
returns-in-None c = no_service c.args.service (map (operand_in c.args.nodes.now) c.args.xs.now) c.args.pos c.args.first
    (sym c.in-None.is ∙ c.service_of.ensures)

pub returns-in-Some : goal.returns-in-Some
returns-in-Some c =
    let n = c.args.nodes.now in
    answers_is n _ _ _ IsOperand _
    (service_called c.args.service c.in-Some.called _ (map (operand_in n) c.args.xs.now) c.args.pos c.args.first
    (sym c.in-Some.is ∙ c.service_of.ensures) c.asked_list.ensures) c.served.ensures
