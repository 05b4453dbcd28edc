use Rattle.c_types.proofs.Binding.{lookup_insert}
use Rattle.c_types.proofs.scopes.Scopes.note_linked.Goals as goal

pub returns-in_ok-insert-clause-ok : goal.returns-in_ok-insert-clause-ok
returns-in_ok-insert-clause-ok c n =
    rw (c.if-linkage.true, c.in_ok-insert.ensures.entries)
    (lookup_insert c.args.self.now.linked.entries (record { bytes = c.args.name }) c.args.k n)
