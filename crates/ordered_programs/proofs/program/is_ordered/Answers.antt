use Rattle.std.proofs.Common.{List, false, length, ap, subst, ◌∙◌}
use Rattle.std.specs.Prelude.{replicate}
use Rattle.c_tree.specs.declared.typed.Expr.{Expr}
use Rattle.c_tree.specs.declared.typed.Stmt.{Stmt}
use Rattle.ordered_programs.specs.Ordered.{TypesOrdered}
use Rattle.ordered_programs.proofs.program.is_ordered.Goals as goal

pub returns : goal.returns
returns c = λ e.
    c.are_nodes_ordered.ensures e
    (subst TypesOrdered c.as_slice-types.ensures (c.are_types_ordered.ensures c.if-not-are_types_ordered.false))
    (rw (c.as_slice-types.ensures, c.as_slice.ensures) at
    (c.are_globals_typed.ensures c.if-not-are_globals_typed.false))

pub are_nodes_ordered-requires : goal.are_nodes_ordered-requires
are_nodes_ordered-requires c = record {
  exprs = c.in_ok-exprs.ensures ∙ ap (λ (es : List Expr). replicate (length es) false) c.as_slice-nodes.ensures;
  stmts = c.in_ok-stmts.ensures ∙ ap (λ (ss : List Stmt). replicate (length ss) false) c.as_slice-actions.ensures;
}
