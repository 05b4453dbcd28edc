use Rattle.std.proofs.Common.{◌≡◌, ◌<◌, ◌∙◌, Bool, true, false, length, sym, ap, refl}
use Rattle.std.specs.Prelude.{option_map}
use Rattle.c_tree.specs.Scopes.{State, find_in, innermost, at_file_scope}
use Rattle.c_tree.specs.Views.{types_of}
use Rattle.c_tree.specs.Declarations.{function_agrees}
use Rattle.c_interner.specs.Numbers.{type_named}
use Rattle.c_types.specs.Fitting.{function_seen, function_fits}
use Rattle.c_types.specs.Stands.{Stands, entity_kept, entity_seen, text_at}
use Rattle.c_types.proofs.Looking.{if_ok}
use Rattle.c_types.proofs.Seeing.{function_seen_is}
use Rattle.c_types.proofs.scopes.Scopes.function_fits.Goals as goal

pub returns-then-is_at_file_scope : goal.returns-then-is_at_file_scope
returns-then-is_at_file_scope c =
    let sc = c.args.self.now in
    let p = c.args.p.now in
    let n = text_at sc.file.now c.args.d.name in
    let t = type_named p c.args.d.of in
    if_ok c.function_agrees.result _ (λ (r : Bool). (s : State) → Stands sc p s → c.args.d.of < length p.types →
    option_map (entity_kept (types_of p.types)) c.args.found
    ≡ option_map entity_seen (find_in (innermost s.scopes).names n) → r ≡ function_fits s n t)
    c.function_agrees.ensures
    (λ r e s h lt g.
    let file : at_file_scope s ≡ true = sym (c.is_at_file_scope.ensures p s h) ∙ c.if-is_at_file_scope.true in
    let here : function_fits s n t ≡ function_agrees s (find_in (innermost s.scopes).names n) n t false =
    rw file refl in
    e s h lt ∙ ap (λ o. function_seen s o n t false) g
    ∙ sym (here ∙ function_seen_is s (find_in (innermost s.scopes).names n) n t false))
