use Rattle.std.proofs.Common.{◌≡◌, ◌<◌, ◌∙◌, Bool, true, length, sym, ap}
use Rattle.std.specs.Prelude.{option_map, if◌then◌else◌}
use Rattle.c_tree.specs.Types.{is_function}
use Rattle.c_tree.specs.Scopes.{State}
use Rattle.c_tree.specs.Views.{types_of, type_at}
use Rattle.c_interner.specs.Numbers.{type_named}
use Rattle.c_types.specs.Fitting.{function_seen, object_seen, definition_seen}
use Rattle.c_types.specs.Stands.{Stands, entity_kept, text_at}
use Rattle.c_types.proofs.Looking.{if_ok}
use Rattle.c_types.proofs.scopes.Scopes.definition_agrees.Goals as goal

pub returns-then-is_function : goal.returns-then-is_function
returns-then-is_function c =
    let sc = c.args.self.now in
    let p = c.args.p.now in
    let n = text_at sc.file.now c.args.d.name in
    let t = type_named p c.args.d.of in
    let o = option_map (entity_kept (types_of p.types)) c.args.found in
    if_ok c.function_agrees.result _ (λ (r : Bool). (s : State) → Stands sc p s → c.args.d.of < length p.types →
    r ≡ definition_seen s o n t) c.function_agrees.ensures
    (λ r e s h lt. e s h lt ∙ ap (λ b. if b then function_seen s o n t true else object_seen s o n t true)
    (sym c.if-is_function.true ∙ c.is_function.ensures
    ∙ ap (λ cs. is_function (type_at (types_of cs) c.args.d.of)) c.as_slice.ensures))

pub returns-else-is_function : goal.returns-else-is_function
returns-else-is_function c =
    let sc = c.args.self.now in
    let p = c.args.p.now in
    let n = text_at sc.file.now c.args.d.name in
    let t = type_named p c.args.d.of in
    let o = option_map (entity_kept (types_of p.types)) c.args.found in
    if_ok c.object_agrees.result _ (λ (r : Bool). (s : State) → Stands sc p s → c.args.d.of < length p.types →
    r ≡ definition_seen s o n t) c.object_agrees.ensures
    (λ r e s h lt. e s h lt ∙ ap (λ b. if b then function_seen s o n t true else object_seen s o n t true)
    (sym c.if-is_function.false ∙ c.is_function.ensures
    ∙ ap (λ cs. is_function (type_at (types_of cs) c.args.d.of)) c.as_slice.ensures))
