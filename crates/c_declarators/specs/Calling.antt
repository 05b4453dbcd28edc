-- What a call on what is declared leaves of the nodes.
use Rattle.std.specs.Prelude.{◌≡◌}
use Rattle.c_types.specs.Calls.{Extends}
use Rattle.c_expressions.specs.declared.nodes.Nodes.{Nodes}

-- types keep their numbers, expressions stay with what is known of them, and names are read from the same file
pub record IsDeclared (n m : Nodes) : Type 0 where
  pub program : Extends n.p m.p
  pub facts : m.facts ≡ n.facts
  pub void : m.void ≡ n.void
  pub file : m.scopes.file.now ≡ n.scopes.file.now
