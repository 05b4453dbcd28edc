use Rattle.std.proofs.Common.{◌≡◌, false, [], ◌∷◌, ◌++◌, Some, cond, ap, ◌∙◌, length, subst, refl}
use Rattle.std.specs.Prelude.{◌&&◌, bytes_eq}
use Rattle.std.specs.Map.{lookup}
use Rattle.c_tree.specs.Scopes as meant
use Rattle.c_tree.specs.Scopes.{bind_name}
use Rattle.c_tree.specs.Views.{types_of}
use Rattle.c_types.specs.declared.scopes.Scopes.{Scopes}
use Rattle.c_types.specs.Stands.{Stands, entity_kept, text_at}
use Rattle.c_types.proofs.Extending.{extends_same, global_added}
use Rattle.c_types.proofs.Objects.{object_given, objects_same, linked_same}
use Rattle.c_types.proofs.scopes.Scopes.new_object.Goals as goal

pub returns-clause-ok : goal.returns-clause-ok
returns-clause-ok c s h lt u =
    let sc = c.args.self.now in
    let p = c.args.p.now in
    let k = c.in_ok-k.k in
    let n = c.in_ok-k.ensures ∙ ap length c.as_slice.ensures.value in
    let same = ap (λ (x : Scopes). x.file.now) c.reserve_name.ensures.others in
    let name : c.text-name.result.now ≡ text_at sc.file.now c.args.d.name =
    c.text-name.ensures ∙ ap (λ z. text_at z c.args.d.name) same in
    let ready = c.reserve_name.ensures.keeps p s
    (linked_same (record sc { objects = c.reserve.new.self }) _ p s
    (objects_same sc c.reserve.new.self p s h c.in_ok-reserve.ensures.items) refl c.reserve-2.ensures.entries)
    in
    let b = c.in_ok-bind.ensures.ok p s (meant.Static k) ready
    (ap (entity_kept (types_of p.types)) c.object.ensures) in
    let sb = c.bind.new.self in
    object_given sc sb _ p _ s c.args.d c.args.linkage c.args.defined k c.zeros.result h lt n
    (subst (λ x. Stands sb p (bind_name x (meant.Static k) s)) name b)
    (ap (λ (x : Scopes). x.file.now) c.bind.ensures.others ∙ same)
    (ap (λ (x : Scopes). record x { objects = c.push.new.self }) c.note_linked.ensures.others)
    (c.in_ok-push.ensures.items
    ∙ ap (λ (x : Scopes). x.objects.items ++ record {
      linked = c.args.linkage;
      defined = c.args.defined;
      given = false;
    } ∷ []) c.note_linked.ensures.others)
    (λ m. c.in_ok-note_linked.ensures.ok m
    ∙ ap (λ x. cond (c.args.linkage && bytes_eq x m) (Some k) (lookup (λ j. bytes_eq m j.bytes.now) sb.linked.entries))
    name)
    c.in_ok-append.ensures.ok c.zeros.ensures u

pub returns-clause-extends : goal.returns-clause-extends
returns-clause-extends c = global_added c.args.p.now _ c.zeros.result c.in_ok-append.ensures.ok

pub returns-in_err-append-clause-extends : goal.returns-in_err-append-clause-extends
returns-in_err-append-clause-extends c =
    extends_same c.args.p.now _ (ap (λ gs. record c.args.p.now { globals = gs }) c.in_err-append.ensures.err)
