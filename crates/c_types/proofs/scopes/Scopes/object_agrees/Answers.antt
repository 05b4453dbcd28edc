use Rattle.std.proofs.Common.{◌≡◌, ◌<◌, ◌∙◌, Bool, length, sym, ap}
use Rattle.std.specs.Prelude.{option_map}
use Rattle.c_tree.specs.Views.{types_of}
use Rattle.c_tree.specs.Scopes.{State}
use Rattle.c_tree.specs.Declarations.{linked, agrees_linked}
use Rattle.c_interner.specs.Numbers.{type_named}
use Rattle.c_types.specs.Fitting.{object_seen}
use Rattle.c_types.specs.Stands.{Stands, entity_kept, text_at}
use Rattle.c_types.proofs.Looking.{if_ok}
use Rattle.c_types.proofs.scopes.Scopes.object_agrees.Goals as goal

pub returns-in-Some-look_linked : goal.returns-in-Some-look_linked
returns-in-Some-look_linked c =
    let sc = c.args.self.now in
    let p = c.args.p.now in
    let ts = types_of p.types in
    let n = text_at sc.file.now c.args.d.name in
    let t = type_named p c.args.d.of in
    if_ok c.static_agrees.result _ (λ (r : Bool). (s : State) → Stands sc p s → c.args.d.of < length p.types →
    r ≡ object_seen s (option_map (entity_kept ts) c.args.found) n t c.args.defines) c.static_agrees.ensures
    (λ r e s h lt.
    e s h lt ∙ ap (λ o. agrees_linked s o t c.args.defines)
    (c.in-Some-look_linked.ensures.seen p s h ∙ ap (linked s) c.text.ensures)
    ∙ ap (λ o. object_seen s (option_map (entity_kept ts) o) n t c.args.defines) (sym c.in-None.is))
