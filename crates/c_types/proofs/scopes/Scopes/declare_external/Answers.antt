use Rattle.std.proofs.Common.{refl, false}
use Rattle.c_tree.specs.Scopes.{Static}
use Rattle.c_tree.specs.Declarations.{linked_static, linked}
use Rattle.c_types.specs.declared.entries.Entry.{Entry}
use Rattle.c_types.specs.Calls.{IsDeclared}
use Rattle.c_types.specs.declared.entries.Entry.TheVariants.{Global}
use Rattle.c_types.specs.Declares.{name_of, formed_of, giving, declares_external}
use Rattle.c_types.specs.Fitting.{external_fits}
use Rattle.c_types.proofs.Judged.{admitted, not_admitted, entity_given}
use Rattle.c_types.proofs.scopes.Scopes.declare_external.Goals as goal

pub returns-in-Err-clause-answers : goal.returns-in-Err-clause-answers
returns-in-Err-clause-answers c lt =
    let sc = c.args.self.now in
    let p = c.args.p.now in
    let t = name_of sc.file.now c.args.d in
    let f = formed_of p c.args.d in
    let b = c.args.d.defines in
    not_admitted {X = Entry} sc p (declares_external t f b)
    (λ s. giving Static (linked_static t f.of false (linked s t.text))) f c.in_ok-fits.fits false b
    (λ s. external_fits s t.text f.of) (λ s. false) (λ s. b) t.pos (IsDeclared p) c.in-Err.refusal
    (λ s. refl)
    (λ s h. c.in_ok-fits.ensures s h lt)
    (λ s h. refl) (λ s h. refl) (c.in-Err.ensures f.of)

pub returns-in_ok-k-in-Ok-clause-answers : goal.returns-in_ok-k-in-Ok-clause-answers
returns-in_ok-k-in-Ok-clause-answers c lt s h =
    let sc = c.args.self.now in
    let p = c.args.p.now in
    let t = name_of sc.file.now c.args.d in
    let f = formed_of p c.args.d in
    let b = c.args.d.defines in
    admitted _ _ s (declares_external t f b) (giving Static (linked_static t f.of false (linked s t.text))) f
    c.in_ok-fits.fits false b
    (external_fits s t.text f.of) false b t.pos _ _
    refl (c.in_ok-fits.ensures s h lt) refl refl (c.in-Ok.ensures f.of)
    (entity_given _ _ s (linked_static t f.of false (linked s t.text)) Static c.in_ok-k-in-Ok.k
    (Global c.in_ok-k-in-Ok.k) refl (c.in_ok-k-in-Ok.ensures.ok s h lt))
