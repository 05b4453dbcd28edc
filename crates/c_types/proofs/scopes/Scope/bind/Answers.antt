use Rattle.c_types.proofs.Binding.{lookup_insert}
use Rattle.c_types.proofs.scopes.Scope.bind.Goals as goal

pub returns-clause-names : goal.returns-clause-names
returns-clause-names c n =
    rw c.in_ok-insert.ensures.entries
    (lookup_insert c.args.self.now.names.entries (record { bytes = c.args.name }) c.args.entity n)
