use Rattle.std.proofs.Common.{sym, ◌∙◌}
use Rattle.tac_lower.proofs.Homes.{gives_none, gives_some}
use Rattle.tac_lower.proofs.functions.gives.Goals as goal

pub returns-in-None : goal.returns-in-None
returns-in-None c = λ p r ps ready is. gives_none p c.args.d.now r ps ready.ordered is
    (sym (c.facts_at.ensures p.types ready.table).given ∙ c.in-None.is)

pub returns-in-Some : goal.returns-in-Some
returns-in-Some c = λ p r ps ready is.
    (c.facts_at-in-Some.ensures p.types ready.table).kept
    ∙ gives_some p c.args.d.now r ps ready.ordered is c.in-Some.t
    (sym (c.facts_at.ensures p.types ready.table).given ∙ c.in-Some.is)
