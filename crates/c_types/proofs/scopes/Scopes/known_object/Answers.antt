use Rattle.std.proofs.Common.{◌≡◌, Some, sym, ap, subst, ◌∙◌, refl}
use Rattle.std.specs.Prelude.{slice_get, ◌||◌}
use Rattle.c_tree.specs.declared.typed.GlobalDef.{GlobalDef}
use Rattle.c_tree.specs.declared.typed.Typed.{Typed}
use Rattle.c_tree.specs.Types.{composite}
use Rattle.c_tree.specs.Views.{types_of}
use Rattle.c_tree.specs.Scopes as meant
use Rattle.c_tree.specs.Scopes.{StaticState, bind_name, change_static}
use Rattle.c_interner.specs.Numbers.{type_named}
use Rattle.c_types.specs.declared.scopes.Scopes.{Scopes}
use Rattle.c_types.specs.Stands.{Stands, entity_kept, text_at}
use Rattle.c_types.proofs.Extending.{extends_after, extends_types, global_changed}
use Rattle.c_types.proofs.Judged.{named_there}
use Rattle.c_types.proofs.Objects.{known_given, known_changed, static_type}
use Rattle.c_types.proofs.scopes.Scopes.known_object.Goals as goal

pub returns-clause-ok : goal.returns-clause-ok
returns-clause-ok c s h lt =
    let sc = c.args.self.now in
    let p = c.args.p.now in
    let q : Typed = record c.merged_object.new.p { globals = c.set_type.new.globals } in
    let k = c.args.k in
    let t = type_named p c.args.d.of in
    let st = change_static k (λ (g : StaticState).
    record g { of = composite g.of t; defined = g.defined || c.args.defined }) s in
    let ready = c.reserve_name.ensures.keeps p s h in
    let same = ap (λ (x : Typed). x.globals) c.in_ok-of.ensures.adds.rest in
    let changed = known_changed c.merged_object.new.self c.note_defined.new.self.objects c.merged_object.new.p
    c.set_type.new.globals s k c.in_ok-of.of t c.args.defined (c.in_ok-of.ensures.keeps s ready)
    c.note_defined.ensures.objects c.set_type.ensures
    (λ x y a b.
    let there : slice_get p.globals k ≡ Some x = ap (λ gs. slice_get gs k) (sym same) ∙ a in
    c.in_ok-of.ensures.ok x y.of t there (static_type c.reserve_name.new.self p s k x y ready there b)
    (named_there p c.args.d.of lt)) in
    let now : Stands c.note_defined.new.self q st =
    subst (λ (z : Scopes). Stands z q st) (sym c.note_defined.ensures.others) changed in
    let file = ap (λ (x : Scopes). x.file.now) c.note_defined.ensures.others
    ∙ ap (λ (x : Scopes). x.file.now) c.in_ok-of.ensures.others
    ∙ ap (λ (x : Scopes). x.file.now) c.reserve_name.ensures.others in
    let b = c.in_ok-bind.ensures.ok q st (meant.Static k) now
    (ap (entity_kept (types_of q.types)) c.object.ensures) in
    known_given c.bind.new.self q s sc.file.now c.args.d k t c.args.defined
    (subst (λ n. Stands c.bind.new.self q (bind_name n (meant.Static k) st))
    (c.text.ensures ∙ ap (λ z. text_at z c.args.d.name) file) b)

pub returns-clause-extends : goal.returns-clause-extends
returns-clause-extends c =
    extends_after c.args.p.now c.merged_object.new.p _
    (extends_types c.args.p.now c.merged_object.new.p c.in_ok-of.ensures.adds)
    (global_changed c.merged_object.new.p _ (λ (g : GlobalDef). record g { of = c.in_ok-of.of }) c.args.k
    c.set_type.ensures (λ x. refl))

pub returns-in_err-of-clause-extends : goal.returns-in_err-of-clause-extends
returns-in_err-of-clause-extends c =
    extends_types c.args.p.now c.merged_object.new.p c.in_err-of.ensures.adds
