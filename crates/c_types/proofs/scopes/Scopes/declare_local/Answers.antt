use Rattle.std.proofs.Common.{ap, ◌∙◌, refl, false}
use Rattle.std.specs.Prelude.{not}
use Rattle.c_tree.specs.Scopes.{Local}
use Rattle.c_tree.specs.Declarations.{new_local}
use Rattle.c_tree.specs.Declarators.{is_new}
use Rattle.c_types.specs.declared.entries.Entry.{Entry}
use Rattle.c_types.specs.Calls.{IsDeclared}
use Rattle.c_types.specs.declared.entries.Entry.TheVariants.{Var}
use Rattle.c_types.specs.Declares.{name_of, formed_of, giving, declares_local, is_ready}
use Rattle.c_types.proofs.Judged.{admitted, not_admitted, entity_given, named_there}
use Rattle.c_types.proofs.scopes.Scopes.declare_local.Goals as goal

pub returns-in-Err-clause-is : goal.returns-in-Err-clause-is
returns-in-Err-clause-is c lt =
    let sc = c.args.self.now in
    let p = c.args.p.now in
    let t = name_of sc.file.now c.args.d in
    let f = formed_of p c.args.d in
    let b = c.args.d.defines in
    not_admitted {X = Entry} sc p (declares_local t f b) (λ s. giving (λ k. Local k f.of) (new_local t f.of)) f
    c.is_new-fits.result
    (not c.is_ready-ready.result) false (λ s. is_new s t.text) (λ s. not (is_ready s f.of b)) (λ s. false) t.pos
    (IsDeclared p) c.in-Err.refusal
    (λ s. refl) (λ s h. c.is_new-fits.ensures p s h ∙ ap (is_new s) c.text.ensures)
    (λ s h. ap not (c.is_ready-ready.ensures s h)) (λ s h. refl) (c.in-Err.ensures f.of)

pub returns-in_ok-k-in-Ok-clause-is : goal.returns-in_ok-k-in-Ok-clause-is
returns-in_ok-k-in-Ok-clause-is c lt s h =
    let sc = c.args.self.now in
    let p = c.args.p.now in
    let t = name_of sc.file.now c.args.d in
    let f = formed_of p c.args.d in
    let b = c.args.d.defines in
    admitted _ _ s (declares_local t f b) (giving (λ k. Local k f.of) (new_local t f.of)) f c.is_new-fits.result
    (not c.is_ready-ready.result) false
    (is_new s t.text) (not (is_ready s f.of b)) false t.pos _ _
    refl (c.is_new-fits.ensures p s h ∙ ap (is_new s) c.text.ensures) (ap not (c.is_ready-ready.ensures s h)) refl
    (c.in-Ok.ensures f.of)
    (entity_given _ p s (new_local t f.of) (λ k. Local k f.of) c.in_ok-k-in-Ok.k (Var c.in_ok-k-in-Ok.k) (f.of, refl)
    (c.in_ok-k-in-Ok.ensures.ok p s f.of h (named_there p c.args.d.of lt)))
