use Rattle.std.proofs.Common.{◌≡◌, ℕ, ◌<◌, Some}
use Rattle.std.specs.Prelude.{slice_get}
use Rattle.c_tree.specs.declared.typed.Expr.{Expr}
use Rattle.plain_programs.specs.Plain.{CallPlain}
use Rattle.plain_programs.proofs.nodes.are_calls_plain.Given as goal

abbrev pub invariant-loop-e : goal.invariant-loop-e
invariant-loop-e l = (j : ℕ) (x : Expr) → j < l.e-index → slice_get l.exprs j ≡ Some x → CallPlain l.p x.kind x.of
