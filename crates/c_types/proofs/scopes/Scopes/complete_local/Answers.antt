use Rattle.std.proofs.Common.{ap, ◌∙◌, subst}
use Rattle.c_tree.specs.Scopes as meant
use Rattle.c_tree.specs.Scopes.{bind_name}
use Rattle.c_tree.specs.Views.{types_of}
use Rattle.c_types.specs.Stands.{Stands, entity_kept, local}
use Rattle.c_types.proofs.scopes.Scopes.complete_local.Goals as goal

pub returns-clause-ok : goal.returns-clause-ok
returns-clause-ok c p s u h e =
    let b = c.in_ok-bind.ensures.ok p s (meant.Local c.args.k u) h
    (ap (entity_kept (types_of p.types)) c.local.ensures ∙ ap (local c.args.k) e) in
    c.retype_local.ensures.is p _ u (subst (λ n. Stands c.bind.new.self p (bind_name n (meant.Local c.args.k u) s))
    c.text.ensures b) e
