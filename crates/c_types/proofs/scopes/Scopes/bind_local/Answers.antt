use Rattle.std.proofs.Common.{ap, ◌∙◌, subst}
use Rattle.std.proofs.lemmas.Result.{on_ok_weaker}
use Rattle.c_tree.specs.Scopes as meant
use Rattle.c_tree.specs.Scopes.{bind_name}
use Rattle.c_tree.specs.Views.{types_of}
use Rattle.c_types.specs.Stands.{Stands, entity_kept, local}
use Rattle.c_types.proofs.scopes.Scopes.bind_local.Goals as goal

pub returns-clause-ok : goal.returns-clause-ok
returns-clause-ok c =
    on_ok_weaker c.bind.result
    (λ b p s u h e. subst (λ n. Stands c.bind.new.self p (bind_name n (meant.Local c.args.k u) s)) c.text.ensures
    (b p s (meant.Local c.args.k u) h (ap (entity_kept (types_of p.types)) c.local.ensures
    ∙ ap (local c.args.k) e)))
    c.bind.ensures.ok
