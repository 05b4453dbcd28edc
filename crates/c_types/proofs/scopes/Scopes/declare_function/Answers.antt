use Rattle.std.proofs.Common.{ap, ◌∙◌, refl, false}
use Rattle.std.specs.Prelude.{not, ◌||◌, option_map}
use Rattle.c_tree.specs.Scopes.{find_in, innermost, at_file_scope}
use Rattle.c_tree.specs.Views.{types_of}
use Rattle.c_tree.specs.Declarations.{linked_routine}
use Rattle.c_types.specs.declared.entries.Entry.{Entry}
use Rattle.c_types.specs.Calls.{IsDeclared}
use Rattle.c_types.specs.Declares.{name_of, formed_of, giving, function_of, declares_function}
use Rattle.c_types.specs.Fitting.{function_fits}
use Rattle.c_types.specs.Stands.{entity_seen}
use Rattle.c_types.proofs.Judged.{admitted, not_admitted, entity_given}
use Rattle.c_types.proofs.Routines.{function_is}
use Rattle.c_types.proofs.scopes.Scopes.declare_function.Goals as goal

pub returns-in-Err-clause-answers : goal.returns-in-Err-clause-answers
returns-in-Err-clause-answers c lt =
    let sc = c.args.self.now in
    let p = c.args.p.now in
    let t = name_of sc.file.now c.args.d in
    let f = formed_of p c.args.d in
    let b = c.args.d.defines in
    not_admitted {X = Entry} sc p (declares_function t f b)
    (λ s. giving (function_of (find_in (innermost s.scopes).names t.text))
    (linked_routine t f.of (find_in (innermost s.scopes).names t.text))) f c.in_ok-fits.fits false
    c.either-misfits.result (λ s. function_fits s t.text f.of) (λ s. false) (λ s. b || not (at_file_scope s)) t.pos
    (IsDeclared p) c.in-Err.refusal
    (λ s. refl)
    (λ s h. c.in_ok-fits.ensures s h lt (c.look_here-found.ensures p s h
    ∙ ap (λ m. option_map entity_seen (find_in (innermost s.scopes).names m)) c.text.ensures))
    (λ s h. refl)
    (λ s h. c.either-misfits.ensures ∙ ap (λ x. b || not x) (c.is_at_file_scope.ensures p s h))
    (c.in-Err.ensures f.of)

pub returns-in_ok-k-in-Ok-clause-answers : goal.returns-in_ok-k-in-Ok-clause-answers
returns-in_ok-k-in-Ok-clause-answers c lt s h =
    let sc = c.args.self.now in
    let p = c.args.p.now in
    let t = name_of sc.file.now c.args.d in
    let f = formed_of p c.args.d in
    let b = c.args.d.defines in
    let e = find_in (innermost s.scopes).names t.text in
    let found = c.look_here-found.ensures p s h
    ∙ ap (λ m. option_map entity_seen (find_in (innermost s.scopes).names m)) c.text.ensures in
    admitted _ _ s (declares_function t f b) (giving (function_of e) (linked_routine t f.of e)) f
    c.in_ok-fits.fits false c.either-misfits.result
    (function_fits s t.text f.of) false (b || not (at_file_scope s)) t.pos _ _
    refl (c.in_ok-fits.ensures s h lt found) refl
    (c.either-misfits.ensures ∙ ap (λ x. b || not x) (c.is_at_file_scope.ensures p s h)) (c.in-Ok.ensures f.of)
    (entity_given _ _ s (linked_routine t f.of e) (function_of e) c.in_ok-k-in-Ok.k c.function_entry.result
    (rw c.function_entry.ensures (function_is (types_of p.types) c.linked_routine.new.p c.look_here-found.result e
    c.in_ok-k-in-Ok.k found))
    (c.in_ok-k-in-Ok.ensures.ok s e h lt found))
