use Rattle.c_types.proofs.Binding.{lookup_insert}
use Rattle.c_types.proofs.scopes.Scope.bind_tag.Goals as goal

pub returns-clause-tags : goal.returns-clause-tags
returns-clause-tags c n =
    rw c.in_ok-insert.ensures.entries
    (lookup_insert c.args.self.now.tags.entries (record { bytes = c.args.name }) c.args.tagging n)
