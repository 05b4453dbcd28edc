use Rattle.std.proofs.Common.{◌≡◌, ℕ, ap, sym, ◌∙◌, refl, false, true, subst, []}
use Rattle.std.specs.Prelude.{option_map, not, ◌||◌}
use Rattle.c_tree.specs.Types.{is_function}
use Rattle.c_tree.specs.Scopes.{RoutineState, find_in, innermost, change_routine, ◌>>=◌}
use Rattle.c_tree.specs.Views.{types_of, type_at}
use Rattle.c_tree.specs.Declarations.{definition_agrees, linked_routine}
use Rattle.c_tree.specs.Programs.{is_typedef}
use Rattle.c_types.specs.Declares.{name_of, formed_of, storage_of, declares_definition}
use Rattle.c_types.specs.Fitting.{definition_seen}
use Rattle.c_types.specs.Naming.{IsNumber, begins}
use Rattle.c_types.specs.Judging.{admits}
use Rattle.c_types.specs.Stands.{Stands, entity_seen}
use Rattle.c_types.proofs.Extending.{extends_after}
use Rattle.c_types.proofs.Judged.{admitted, not_admitted, steps_after}
use Rattle.c_types.proofs.Routines.{definition_given}
use Rattle.c_types.proofs.Seeing.{definition_seen_is}
use Rattle.c_types.proofs.scopes.Scopes.declare_definition.Goals as goal

pub returns-in-Err-clause-answers : goal.returns-in-Err-clause-answers
returns-in-Err-clause-answers c lt =
    let sc = c.args.self.now in
    let p = c.args.p.now in
    let t = name_of sc.file.now c.args.d in
    let f = formed_of p c.args.d in
    let misfits : c.either-misfits.result ≡ (is_typedef (storage_of c.args.d.storage) || not (is_function f.of)) =
    c.either-misfits.ensures ∙ ap (λ b. b || not c.is_function.result) c.is_typedef.ensures
    ∙ ap (λ b. is_typedef (storage_of c.args.d.storage) || not b)
    (c.is_function.ensures ∙ ap (λ cs. is_function (type_at (types_of cs) c.args.d.of)) c.as_slice.ensures) in
    not_admitted {X = ℕ} sc p (declares_definition (storage_of c.args.d.storage) t f)
    (λ s. linked_routine t f.of (find_in (innermost s.scopes).names t.text) >>= begins t) f c.in_ok-fits.fits false
    c.either-misfits.result (λ s. definition_agrees s (find_in (innermost s.scopes).names t.text) t.text f.of)
    (λ s. false) (λ s. is_typedef (storage_of c.args.d.storage) || not (is_function f.of)) t.pos
    IsNumber c.in-Err.refusal
    (λ s. steps_after (admits (definition_agrees s (find_in (innermost s.scopes).names t.text) t.text f.of) f false
    (is_typedef (storage_of c.args.d.storage) || not (is_function f.of)) t.pos)
    (linked_routine t f.of (find_in (innermost s.scopes).names t.text)) (begins t) s)
    (λ s h. c.in_ok-fits.ensures s h lt
    ∙ ap (λ o. definition_seen s o t.text f.of)
    (c.look_here-found.ensures p s h
    ∙ ap (λ m. option_map entity_seen (find_in (innermost s.scopes).names m)) c.text.ensures)
    ∙ sym (definition_seen_is s (find_in (innermost s.scopes).names t.text) t.text f.of))
    (λ s h. refl)
    (λ s h. misfits)
    (c.in-Err.ensures f.of)

pub returns-in_ok-k-in-Ok-clause-answers : goal.returns-in_ok-k-in-Ok-clause-answers
returns-in_ok-k-in-Ok-clause-answers c lt s h =
    let sc = c.args.self.now in
    let p = c.args.p.now in
    let t = name_of sc.file.now c.args.d in
    let f = formed_of p c.args.d in
    let misfits : c.either-misfits.result ≡ (is_typedef (storage_of c.args.d.storage) || not (is_function f.of)) =
    c.either-misfits.ensures ∙ ap (λ b. b || not c.is_function.result) c.is_typedef.ensures
    ∙ ap (λ b. is_typedef (storage_of c.args.d.storage) || not b)
    (c.is_function.ensures ∙ ap (λ cs. is_function (type_at (types_of cs) c.args.d.of)) c.as_slice.ensures) in
    let e = find_in (innermost s.scopes).names t.text in
    let found = c.look_here-found.ensures p s h
    ∙ ap (λ m. option_map entity_seen (find_in (innermost s.scopes).names m)) c.text.ensures in
    admitted _ _ s (declares_definition (storage_of c.args.d.storage) t f)
    (linked_routine t f.of e >>= begins t) f c.in_ok-fits.fits false c.either-misfits.result
    (definition_agrees s e t.text f.of) false
    (is_typedef (storage_of c.args.d.storage) || not (is_function f.of)) t.pos _ _
    (steps_after (admits (definition_agrees s e t.text f.of) f false
    (is_typedef (storage_of c.args.d.storage) || not (is_function f.of)) t.pos) (linked_routine t f.of e)
    (begins t) s)
    (c.in_ok-fits.ensures s h lt ∙ ap (λ o. definition_seen s o t.text f.of) found
    ∙ sym (definition_seen_is s e t.text f.of))
    refl misfits (c.in-Ok.ensures f.of)
    (definition_given c.linked_routine.new.self _ c.linked_routine.new.p _ s t f.of e c.in_ok-k-in-Ok.k
    (c.in_ok-k-in-Ok.ensures.ok s e h lt found)
    (λ u g. subst (λ z. Stands c.begin_routine.new.self c.begin_routine.new.p
    (change_routine c.in_ok-k-in-Ok.k (λ (r : RoutineState).
    record r { name = name_of z c.args.d; begun = true }) (record u { locals = [] })))
    c.in_ok-k-in-Ok.ensures.file (c.begin_routine.ensures.stands u g)))

pub returns-in_ok-k-in-Ok-clause-extends : goal.returns-in_ok-k-in-Ok-clause-extends
returns-in_ok-k-in-Ok-clause-extends c =
    extends_after _ _ _ c.in_ok-k-in-Ok.ensures.extends c.begin_routine.ensures.extends
