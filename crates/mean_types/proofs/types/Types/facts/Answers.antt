use Rattle.std.proofs.Common.{◌≡◌, refl, subst}
use Rattle.mean_types.specs.Facts.{AreTypesOf}
use Rattle.mean_types.proofs.Behind.{facts_missing, facts_found}
use Rattle.mean_types.proofs.types.Types.facts.Goals as goal

pub returns-in-None : goal.returns-in-None
returns-in-None c =
    let a = c.deref.ensures.value in
    let b = c.self.view_is in
    let e : c.args.self.now ≡ c.deref.result.now = cc in
    facts_missing _ c.deref.result.now _ _ (subst (λ l. AreTypesOf c.args.p.now.types l) e c.requires)
    c.in-None.ensures.lookup.0
    (record { kind = refl; pointer = refl; target = refl; void = refl; is_record = refl; gives = refl }) refl refl refl

pub returns-in-Some : goal.returns-in-Some
returns-in-Some c =
    let a = c.deref.ensures.value in
    let b = c.self.view_is in
    let e : c.args.self.now ≡ c.deref.result.now = cc in
    facts_found _ c.deref.result.now _ _ (subst (λ l. AreTypesOf c.args.p.now.types l) e c.requires) c.ranges.t.fits
    c.in-Some.ensures.lookup.0 c.in-Some.ensures.lookup.1
