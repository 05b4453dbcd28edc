use Rattle.std.proofs.Common.{ap, ◌∙◌, sym}
use Rattle.tac_lower.specs.Tables.{is_some}
use Rattle.tac_lower.proofs.Tabled.{pointed_is}
use Rattle.tac_lower.proofs.Typings.{points_is}
use Rattle.tac_lower.proofs.context.Context.element.Goals as goal

pub returns-in-None-clause-is : goal.returns-in-None-clause-is
returns-in-None-clause-is c =
    λ r. ap is_some (sym c.in-None.is ∙ (c.facts_at.ensures _ r.table).points) ∙ points_is _ r.ordered _

pub returns-in-Some : goal.returns-in-Some
returns-in-Some c =
    record {
      is = (λ r. ap is_some (sym c.in-Some.is ∙ (c.facts_at.ensures _ r.table).points) ∙ points_is _ r.ordered _);
      size = (λ r. pointed_is (c.facts_at.ensures _ r.table) c.in-Some.is (c.facts_at-in-Some.ensures _ r.table));
    }
