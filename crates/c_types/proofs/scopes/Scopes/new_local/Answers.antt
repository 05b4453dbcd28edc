use Rattle.std.proofs.Common.{ap, ◌∙◌, length, subst}
use Rattle.c_tree.specs.Scopes as meant
use Rattle.c_tree.specs.Scopes.{bind_name}
use Rattle.c_tree.specs.Views.{types_of}
use Rattle.c_types.specs.declared.scopes.Scopes.{Scopes}
use Rattle.c_types.specs.Stands.{Stands, entity_kept, local}
use Rattle.c_types.proofs.Added.{local_given, locals_same}
use Rattle.c_types.proofs.scopes.Scopes.new_local.Goals as goal

pub returns-clause-ok : goal.returns-clause-ok
returns-clause-ok c p s of h e =
    let sc = c.args.self.now in
    let k = c.in_ok-k.k in
    let n = c.in_ok-k.ensures ∙ ap length c.as_slice.ensures.value in
    let ready = locals_same sc c.reserve.new.self p s h c.in_ok-reserve.ensures.items in
    let b = c.in_ok-bind.ensures.ok p s (meant.Local k of) ready
    (ap (entity_kept (types_of p.types)) c.local.ensures ∙ ap (local k) e) in
    local_given sc c.bind.new.self c.push.new.self p s c.args.d of k h e n
    (subst (λ x. Stands c.bind.new.self p (bind_name x (meant.Local k of) s)) c.text.ensures b)
    (ap (λ (x : Scopes). x.file.now) c.bind.ensures.others) c.in_ok-push.ensures.items
