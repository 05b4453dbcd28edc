use Rattle.std.proofs.Common.{◌+◌, take, subst, arith}
use Rattle.std.proofs.lemmas.List.{take_all, length-take-le}
use Rattle.c_tree.specs.declared.typed.Stmt.{Stmt}
use Rattle.c_tree.specs.Views.{values, parts}
use Rattle.ordered_programs.specs.Uses.{MarksEach}
use Rattle.ordered_programs.proofs.Each.{taken_more}
use Rattle.ordered_programs.proofs.Marking.{none_marked, marks_turn}
use Rattle.ordered_programs.proofs.statements.are_stmts_ordered.Goals as goal

pub loop-k-init : goal.loop-k-init
loop-k-init c = record {
  values = none_marked (λ (s : Stmt). values s.kind) (λ k. c.args.count) c.args.exprs.now.items;
  parts = none_marked (λ (s : Stmt). parts s.kind) (λ k. k) c.args.stmts.now.items;
}

pub loop-k-preserved : goal.loop-k-preserved
loop-k-preserved c =
    let xs = c.args.list.now in
    let i = c.loop-k.k in
    let x = c.index-list-k.result in
    let ok = c.if-not-is_stmt_ordered.false in
    let more = taken_more xs i x c.loop-k-test.true c.index-list-k.is in
    let l = length-take-le i xs (omega arith) in
    record {
      values = marks_turn (λ (s : Stmt). values s.kind) (λ k. c.args.count) (take (i + 1) xs) (take i xs) i x
          c.args.exprs.now.items c.loop-k.exprs.items c.is_stmt_ordered.new.exprs.items l c.loop-k.invariant.values
          (c.is_stmt_ordered.ensures.values ok) more;
      parts = marks_turn (λ (s : Stmt). parts s.kind) (λ k. k) (take (i + 1) xs) (take i xs) i x
          c.args.stmts.now.items c.loop-k.stmts.items c.is_stmt_ordered.new.stmts.items l c.loop-k.invariant.parts
          (c.is_stmt_ordered.ensures.parts ok) more;
    }

pub returns : goal.returns
returns c = λ e.
    let all = take_all c.loop-k.k c.args.list.now c.loop-k-test.false in
    record {
      values = subst (λ zs. MarksEach (λ (s : Stmt). values s.kind) (λ k. c.args.count) zs c.args.exprs.now.items
          c.loop-k.exprs.items) all c.loop-k.invariant.values;
      parts = subst (λ zs. MarksEach (λ (s : Stmt). parts s.kind) (λ k. k) zs c.args.stmts.now.items
          c.loop-k.stmts.items) all c.loop-k.invariant.parts;
    }
