use Rattle.std.proofs.Common.{subst}
use Rattle.ordered_programs.specs.Uses.{AllMarked}
use Rattle.ordered_programs.proofs.Ordering.{nodes_ordered}
use Rattle.ordered_programs.proofs.program.are_nodes_ordered.Goals as goal

pub returns : goal.returns
returns c = λ e types globals.
    let ts = c.as_slice-types.ensures in
    let es = c.as_slice-nodes.ensures in
    let ss = c.as_slice-actions.ensures in
    nodes_ordered c.args.p.now c.args.exprs.now.items c.are_exprs_ordered.new.marks.items
    c.are_stmts_ordered.new.exprs.items c.args.stmts.now.items c.are_stmts_ordered.new.stmts.items
    c.are_functions_ordered.new.stmts.items (record {
      no_exprs = c.requires.exprs;
      no_stmts = c.requires.stmts;
      exprs_ordered = rw (ts, es) at (c.are_exprs_ordered.ensures c.if-not-are_exprs_ordered.false);
      stmts_ordered = rw (es, ss) at (c.are_stmts_ordered.ensures c.if-not-are_stmts_ordered.false);
      funs_ordered = rw (ts, ss, c.as_slice.ensures) at
          (c.are_functions_ordered.ensures c.if-not-are_functions_ordered.false);
      all_exprs = subst AllMarked c.as_slice-2.ensures.value (c.are_all_marked.ensures c.if-not-are_all_marked.false);
      all_stmts = subst AllMarked c.as_slice-3.ensures.value (c.are_all_marked-2.ensures e);
    }) types globals
