use Rattle.std.proofs.Common.{ap, ◌∙◌, subst, refl, false}
use Rattle.c_tree.specs.Scopes as meant
use Rattle.c_tree.specs.Scopes.{bind_name, change, give, ◌>>◌}
use Rattle.c_tree.specs.Views.{types_of}
use Rattle.c_types.specs.declared.entries.Entry.{Entry}
use Rattle.c_types.specs.Calls.{IsDeclared}
use Rattle.c_types.specs.declared.entries.Entry.TheVariants.{Typedef}
use Rattle.c_types.specs.Declares.{name_of, formed_of, declares_alias}
use Rattle.c_types.specs.Fitting.{alias_fits}
use Rattle.c_types.specs.Stands.{Stands, entity_kept, alias}
use Rattle.c_types.proofs.Judged.{admitted, not_admitted, named_there}
use Rattle.c_types.proofs.scopes.Scopes.declare_alias.Goals as goal

pub returns-in-Err-clause-is : goal.returns-in-Err-clause-is
returns-in-Err-clause-is c lt =
    let sc = c.args.self.now in
    let p = c.args.p.now in
    let t = name_of sc.file.now c.args.d in
    let f = formed_of p c.args.d in
    let b = c.args.d.defines in
    not_admitted {X = Entry} sc p (declares_alias t f b)
    (λ s. change (bind_name t.text (meant.Alias f.of)) >> give (meant.Alias f.of)) f c.in_ok-fits.fits false b
    (λ s. alias_fits s t.text f.of)
    (λ s. false) (λ s. b) t.pos (IsDeclared p) c.in-Err.refusal
    (λ s. refl) (λ s h. c.in_ok-fits.ensures s h lt) (λ s h. refl) (λ s h. refl) (c.in-Err.ensures f.of)

pub returns-in_ok-bind-in-Ok-clause-is : goal.returns-in_ok-bind-in-Ok-clause-is
returns-in_ok-bind-in-Ok-clause-is c lt s h =
    let sc = c.args.self.now in
    let p = c.args.p.now in
    let t = name_of sc.file.now c.args.d in
    let f = formed_of p c.args.d in
    let b = c.args.d.defines in
    admitted c.bind.new.self p s (declares_alias t f b)
    (change (bind_name t.text (meant.Alias f.of)) >> give (meant.Alias f.of)) f c.in_ok-fits.fits false b
    (alias_fits s t.text f.of) false b t.pos _ (IsDeclared p (Typedef c.args.d.of))
    refl (c.in_ok-fits.ensures s h lt) refl refl (c.in-Ok.ensures f.of)
    (record {
      value = meant.Alias f.of;
      state = bind_name t.text (meant.Alias f.of) s;
      is = refl;
      stands = subst (λ n. Stands c.bind.new.self p (bind_name n (meant.Alias f.of) s)) c.text.ensures
          (c.in_ok-bind-in-Ok.ensures.ok p s (meant.Alias f.of) h
          (ap (entity_kept (types_of p.types)) c.alias.ensures ∙ ap alias (named_there p c.args.d.of lt)));
      fits = refl;
    })
