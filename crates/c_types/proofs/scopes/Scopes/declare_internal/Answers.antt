use Rattle.std.proofs.Common.{ap, ◌∙◌, refl, true, false}
use Rattle.std.specs.Prelude.{not}
use Rattle.c_tree.specs.Scopes.{Static}
use Rattle.c_tree.specs.Declarations.{new_static}
use Rattle.c_tree.specs.Declarators.{is_new}
use Rattle.c_types.specs.declared.entries.Entry.{Entry}
use Rattle.c_types.specs.Calls.{IsDeclared}
use Rattle.c_types.specs.declared.entries.Entry.TheVariants.{Global}
use Rattle.c_types.specs.Declares.{name_of, formed_of, giving, declares_internal, is_ready}
use Rattle.std.proofs.lemmas.Bool.{false≢true}
use Rattle.c_types.proofs.Judged.{admitted, not_admitted, entity_given}
use Rattle.c_types.proofs.scopes.Scopes.declare_internal.Goals as goal

pub returns-in-Err-clause-answers : goal.returns-in-Err-clause-answers
returns-in-Err-clause-answers c lt =
    let sc = c.args.self.now in
    let p = c.args.p.now in
    let t = name_of sc.file.now c.args.d in
    let f = formed_of p c.args.d in
    let b = c.args.d.defines in
    not_admitted {X = Entry} sc p (declares_internal t f b) (λ s. giving Static (new_static t f.of false true)) f
    c.is_new-fits.result
    (not c.is_ready-ready.result) false (λ s. is_new s t.text) (λ s. not (is_ready s f.of b)) (λ s. false) t.pos
    (IsDeclared p) c.in-Err.refusal
    (λ s. refl) (λ s h. c.is_new-fits.ensures p s h ∙ ap (is_new s) c.text.ensures)
    (λ s h. ap not (c.is_ready-ready.ensures s h)) (λ s h. refl) (c.in-Err.ensures f.of)

pub returns-in_ok-k-in-Ok-clause-answers : goal.returns-in_ok-k-in-Ok-clause-answers
returns-in_ok-k-in-Ok-clause-answers c lt s h =
    let sc = c.args.self.now in
    let p = c.args.p.now in
    let t = name_of sc.file.now c.args.d in
    let f = formed_of p c.args.d in
    let b = c.args.d.defines in
    admitted _ _ s (declares_internal t f b) (giving Static (new_static t f.of false true)) f c.is_new-fits.result
    (not c.is_ready-ready.result) false (is_new s t.text) (not (is_ready s f.of b)) false t.pos _ _
    refl (c.is_new-fits.ensures p s h ∙ ap (is_new s) c.text.ensures) (ap not (c.is_ready-ready.ensures s h)) refl
    (c.in-Ok.ensures f.of)
    (entity_given _ _ s (new_static t f.of false true) Static c.in_ok-k-in-Ok.k (Global c.in_ok-k-in-Ok.k) refl
    (c.in_ok-k-in-Ok.ensures.ok s h lt (λ e. absurd (false≢true e))))
