use Rattle.plain_programs.proofs.Others.{other_statement}
use Rattle.plain_programs.proofs.nodes.is_return_plain.Goals as goal

pub returns-in_default : goal.returns-in_default
returns-in_default c = λ e. other_statement c.args.p.now c.args.kind.now c.in_default.not-Return
