use Rattle.std.proofs.Common.{arith}
use Rattle.tac_lower.proofs.Tabled.{past_facts}
use Rattle.tac_lower.proofs.types.facts_at.Goals as goal

pub returns-in-None : goal.returns-in-None
returns-in-None c = λ types h. past_facts types c.args.table.now c.args.t h (omega arith) c.in-None.ensures

pub returns-in-Some : goal.returns-in-Some
returns-in-Some c = λ types h. h.entries c.args.t c.in-Some.f.now c.in-Some.ensures
