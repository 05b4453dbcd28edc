use Rattle.std.proofs.Common.{false, ap, ◌∙◌}
use Rattle.c_tree.specs.Readings.{Context}
use Rattle.c_tree.specs.Types.{Ty, given_by}
use Rattle.c_plain_rules.proofs.bodies.context_of.Goals as goal

pub returns-clause-is : goal.returns-clause-is
returns-clause-is c = λ s h.
    ap (λ (t : Ty). (let x : Context = record { gives = t; in_loop = false; breakable = false } in x))
    (c.given_by.ensures.is ∙ ap given_by (c.routine_type-of.ensures.is s h))
