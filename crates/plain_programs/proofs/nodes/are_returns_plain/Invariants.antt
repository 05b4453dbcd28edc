use Rattle.std.proofs.Common.{◌≡◌, ℕ, ◌<◌, Some}
use Rattle.std.specs.Prelude.{slice_get}
use Rattle.c_tree.specs.declared.typed.Stmt.{Stmt}
use Rattle.plain_programs.specs.Plain.{ReturnPlain}
use Rattle.plain_programs.proofs.nodes.are_returns_plain.Given as goal

abbrev pub invariant-loop-s : goal.invariant-loop-s
invariant-loop-s l = (j : ℕ) (x : Stmt) → j < l.s-index → slice_get l.stmts j ≡ Some x → ReturnPlain l.p x.kind
