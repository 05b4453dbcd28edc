use Rattle.std.proofs.Common.{◌≡◌, ◌<◌, ◌∙◌, Bool, length, sym, ap}
use Rattle.std.specs.Prelude.{option_map}
use Rattle.c_tree.specs.Views.{types_of}
use Rattle.c_interner.specs.Numbers.{type_named}
use Rattle.c_types.specs.Fitting.{same_alias, alias_seen}
use Rattle.c_types.specs.Stands.{named, entity_kept}
use Rattle.c_types.proofs.Looking.{if_ok}
use Rattle.c_types.proofs.Judged.{named_there}
use Rattle.c_types.proofs.Seeing.{same_alias_is}
use Rattle.c_types.proofs.scopes.Scopes.alias_agrees.Goals as goal

pub returns-in-Some-alias_of : goal.returns-in-Some-alias_of
returns-in-Some-alias_of c =
    let p = c.args.p.now in
    let ts = types_of p.types in
    let t = type_named p c.args.of in
    if_ok c.agree.result _ (λ (r : Bool). c.args.of < length p.types →
    r ≡ alias_seen (option_map (entity_kept ts) c.args.found) t) c.agree.ensures
    (λ r e lt. e ∙ same_alias_is (named ts c.in-Some-alias_of.known) _ t (named_there p c.args.of lt)
    ∙ ap (λ o. same_alias o t) (c.in-Some-alias_of.ensures ts)
    ∙ ap (λ o. alias_seen (option_map (entity_kept ts) o) t) (sym c.in-Some.is))
