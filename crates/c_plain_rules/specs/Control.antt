-- The statement that a `for` is (C11 6.8.5.3).
use Rattle.std.specs.Prelude.{ℕ}
use Rattle.c_tree.specs.declared.typed.StmtKind.{StmtKind}
use Rattle.c_tree.specs.declared.typed.StmtKind.TheVariants as stmts
pub use Rattle.c_plain_parts.specs.Switches.{switch_label, labels_in, AddsLabel, switch_of}
use Rattle.c_plain_rules.specs.declared.loops.Head.{Head}

-- the statement that a `for` is
abbrev pub for_of : Head → ℕ → StmtKind
for_of h body = stmts.For h.items.vars.items h.items.actions.items h.test h.step body
