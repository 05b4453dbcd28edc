use Rattle.std.proofs.Common.{refl}
use Rattle.tac_lower.proofs.Tabled.{facts_fit, layout_at}
use Rattle.tac_lower.proofs.types.facts_of.Goals as goal

pub returns-in-None : goal.returns-in-None
returns-in-None c =
    let own = c.own_facts-own.ensures in
    facts_fit _ _ _ (record { kept = own.kept; points = own.points; given = own.given; is_record = own.is_record })
    (refl, refl, layout_at _ _ _ c.in-None.is c.requires)

pub returns-in-Some : goal.returns-in-Some
returns-in-Some c =
    let own = c.own_facts-own.ensures in
    facts_fit _ _ _ (record { kept = own.kept; points = own.points; given = own.given; is_record = own.is_record })
    (layout_at _ _ _ c.in-Some.is c.requires)
