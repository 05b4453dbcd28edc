use Rattle.std.proofs.Common.{◌≡◌, ◌+◌, ◌≤◌, List}
use Rattle.c_tree.specs.declared.typed.VarDef.{VarDef}
use Rattle.cheri_c_sem.specs.Expressions.{expr_tree, from_plain}
use Rattle.mean_run.specs.Sources.{IsFit}
use Rattle.mean_run.proofs.operations.from_plain.Given as goal

abbrev pub invariant-operands : goal.invariant-operands
invariant-operands l =
    IsFit l.s.p.now → (l.at + l.counter ≤ l.k) × ((vars : List VarDef) →
    from_plain (expr_tree l.s.p.now vars l.k) ≡ from_plain (expr_tree l.s.p.now vars l.at))
