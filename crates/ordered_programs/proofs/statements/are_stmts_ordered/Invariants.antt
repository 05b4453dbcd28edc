use Rattle.std.proofs.Common.{take}
use Rattle.c_tree.specs.declared.typed.Stmt.{Stmt}
use Rattle.c_tree.specs.Views.{values, parts}
use Rattle.ordered_programs.specs.Uses.{MarksEach}
use Rattle.ordered_programs.proofs.statements.are_stmts_ordered.Given as goal

abbrev pub invariant-loop-k : goal.invariant-loop-k
invariant-loop-k l = record {
  values : MarksEach (λ (s : Stmt). values s.kind) (λ k. l.count) (take l.k l.list) l.initial.exprs.items l.exprs.items;
  parts : MarksEach (λ (s : Stmt). parts s.kind) (λ k. k) (take l.k l.list) l.initial.stmts.items l.stmts.items;
}
