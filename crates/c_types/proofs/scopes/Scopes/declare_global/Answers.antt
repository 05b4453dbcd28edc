use Rattle.std.proofs.Common.{ap, sym, ◌∙◌, refl, false}
use Rattle.std.specs.Prelude.{not, ◌||◌, option_map}
use Rattle.c_tree.specs.Scopes.{Static, find_in, innermost}
use Rattle.c_tree.specs.Declarations.{linked_static, linked, object_agrees, is_external}
use Rattle.c_types.specs.declared.entries.Entry.{Entry}
use Rattle.c_types.specs.Calls.{IsDeclared}
use Rattle.c_types.specs.declared.entries.Entry.TheVariants.{Global}
use Rattle.c_types.specs.Declares.{name_of, formed_of, storage_of, may_wait, giving, declares_global}
use Rattle.c_types.specs.Fitting.{object_seen}
use Rattle.c_types.specs.Stands.{entity_seen}
use Rattle.c_types.proofs.Judged.{admitted, not_admitted, entity_given}
use Rattle.c_types.proofs.Objects.{defined_given}
use Rattle.c_types.proofs.Seeing.{object_seen_is}
use Rattle.c_types.proofs.scopes.Scopes.declare_global.Goals as goal

pub returns-in-Err-clause-answers : goal.returns-in-Err-clause-answers
returns-in-Err-clause-answers c lt =
    let sc = c.args.self.now in
    let p = c.args.p.now in
    let t = name_of sc.file.now c.args.d in
    let f = formed_of p c.args.d in
    let b = c.args.d.defines in
    not_admitted {X = Entry} sc p (declares_global (storage_of c.args.d.storage) t f b)
    (λ s. giving Static
    (linked_static t f.of (b || not (is_external (storage_of c.args.d.storage))) (linked s t.text))) f
    c.in_ok-fits.fits (not c.may_wait-waits.result) false
    (λ s. object_agrees s (find_in (innermost s.scopes).names t.text) t.text f.of b)
    (λ s. (not (may_wait s f.of b))) (λ s. false) t.pos (IsDeclared p) c.in-Err.refusal
    (λ s. refl)
    (λ s h. c.in_ok-fits.ensures s h lt
    ∙ ap (λ o. object_seen s o t.text f.of b)
    (c.look_here-found.ensures p s h
    ∙ ap (λ m. option_map entity_seen (find_in (innermost s.scopes).names m)) c.text.ensures)
    ∙ sym (object_seen_is s (find_in (innermost s.scopes).names t.text) t.text f.of b))
    (λ s h. (ap not (c.may_wait-waits.ensures s h))) (λ s h. refl) (c.in-Err.ensures f.of)

pub returns-in_ok-k-in-Ok-clause-answers : goal.returns-in_ok-k-in-Ok-clause-answers
returns-in_ok-k-in-Ok-clause-answers c lt s h =
    let sc = c.args.self.now in
    let p = c.args.p.now in
    let t = name_of sc.file.now c.args.d in
    let f = formed_of p c.args.d in
    let b = c.args.d.defines in
    admitted _ _ s (declares_global (storage_of c.args.d.storage) t f b)
    (giving Static (linked_static t f.of (b || not (is_external (storage_of c.args.d.storage))) (linked s t.text))) f
    c.in_ok-fits.fits (not c.may_wait-waits.result) false
    (object_agrees s (find_in (innermost s.scopes).names t.text) t.text f.of b)
    (not (may_wait s f.of b)) false t.pos _ _
    refl (c.in_ok-fits.ensures s h lt
    ∙ ap (λ o. object_seen s o t.text f.of b)
    (c.look_here-found.ensures p s h
    ∙ ap (λ m. option_map entity_seen (find_in (innermost s.scopes).names m)) c.text.ensures)
    ∙ sym (object_seen_is s (find_in (innermost s.scopes).names t.text) t.text f.of b))
    (ap not (c.may_wait-waits.ensures s h)) refl (c.in-Ok.ensures f.of)
    (entity_given _ _ s
    (linked_static t f.of (b || not (is_external (storage_of c.args.d.storage))) (linked s t.text)) Static
    c.in_ok-k-in-Ok.k (Global c.in_ok-k-in-Ok.k) refl
    (defined_given _ _ s t f.of _ _ (linked s t.text) _ c.is_definition.ensures (c.in_ok-k-in-Ok.ensures.ok s h lt)))
