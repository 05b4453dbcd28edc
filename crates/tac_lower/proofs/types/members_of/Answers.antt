use Rattle.tac_lower.proofs.Tabled.{begins_none}
use Rattle.tac_lower.proofs.types.members_of.Goals as goal

pub returns-in_default-clause-offset : goal.returns-in_default-clause-offset
returns-in_default-clause-offset c = λ go k. begins_none c.args.c.now c.in_default.not-Struct go k
