use Rattle.std.proofs.Common.{◌∷◌, sym, subst}
use Rattle.c_tree.specs.Views.{types_of}
use Rattle.c_types.specs.Stands.{ShowsScope, tag_kept, tag_seen}
use Rattle.c_types.proofs.Looking.{stands_scopes, last_reversed, seen_length}
use Rattle.c_types.proofs.scopes.Scopes.reopen.Goals as goal

pub returns-clause-ok : goal.returns-clause-ok
returns-clause-ok c p s m h x =
    let sc = c.args.self.now in
    stands_scopes sc _ p s (m ∷ s.scopes) h
    (rw (last_reversed _ sc.scopes.items c.args.scope c.in_ok-push.ensures.items) (
      subst (λ n. ShowsScope (types_of p.types) n c.args.scope m)
          (sym (seen_length (tag_kept p.types (types_of p.types)) tag_seen sc.tags.items s.tags h.tags)) x,
      h.scopes,
    ))
