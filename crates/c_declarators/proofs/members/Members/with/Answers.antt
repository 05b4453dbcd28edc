use Rattle.std.proofs.Common.{ap, ◌∙◌}
use Rattle.std.specs.Prelude.{bytes_eq, is_some}
use Rattle.std.specs.Map.{lookup}
use Rattle.c_types.proofs.Binding.{lookup_insert}
use Rattle.c_declarators.proofs.Joining.{found_first}
use Rattle.c_declarators.proofs.members.Members.with.Goals as goal

pub returns-clause-names : goal.returns-clause-names
returns-clause-names c other =
    rw c.in_ok-insert.ensures.entries
    (ap is_some (lookup_insert c.args.self.names.entries (record { bytes = c.args.text }) _ other)
    ∙ found_first (bytes_eq c.args.text.now other) _
    (lookup (λ k. bytes_eq other k.bytes.now) c.args.self.names.entries))
