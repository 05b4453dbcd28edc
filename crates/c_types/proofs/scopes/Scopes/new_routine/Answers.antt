use Rattle.std.proofs.Common.{ap, ◌∙◌, length, subst}
use Rattle.c_tree.specs.Scopes as meant
use Rattle.c_tree.specs.Scopes.{bind_name}
use Rattle.c_tree.specs.Views.{types_of}
use Rattle.c_types.specs.declared.scopes.Scopes.{Scopes}
use Rattle.c_types.specs.Stands.{Stands, entity_kept, text_at}
use Rattle.c_types.proofs.Extending.{extends_same, fun_added}
use Rattle.c_types.proofs.Routines.{routine_given, begun_same}
use Rattle.c_types.proofs.scopes.Scopes.new_routine.Goals as goal

pub returns-clause-ok : goal.returns-clause-ok
returns-clause-ok c s h lt =
    let sc = c.args.self.now in
    let p = c.args.p.now in
    let k = c.in_ok-k.k in
    let n = c.in_ok-k.ensures ∙ ap length c.as_slice.ensures.value in
    let same = ap (λ (x : Scopes). x.file.now) c.reserve_name.ensures.others in
    let ready = c.reserve_name.ensures.keeps p s
    (begun_same sc c.reserve.new.self p s h c.in_ok-reserve.ensures.items) in
    let b = c.in_ok-bind.ensures.ok p s (meant.Routine k) ready
    (ap (entity_kept (types_of p.types)) c.routine.ensures) in
    routine_given sc c.bind.new.self c.push.new.self p _ s c.args.d k c.without_body.result h lt n
    (subst (λ x. Stands c.bind.new.self p (bind_name x (meant.Routine k) s))
    (c.text.ensures ∙ ap (λ z. text_at z c.args.d.name) same) b)
    (ap (λ (x : Scopes). x.file.now) c.bind.ensures.others ∙ same) c.in_ok-push.ensures.items c.in_ok-append.ensures.ok
    c.without_body.ensures

pub returns-clause-extends : goal.returns-clause-extends
returns-clause-extends c = fun_added c.args.p.now _ c.without_body.result c.in_ok-append.ensures.ok

pub returns-in_err-append-clause-extends : goal.returns-in_err-append-clause-extends
returns-in_err-append-clause-extends c =
    extends_same c.args.p.now _ (ap (λ fs. record c.args.p.now { funs = fs }) c.in_err-append.ensures.err)
