use Rattle.std.proofs.Common.{ℕ, ◌+◌, ◌<◌, take, subst, arith}
use Rattle.std.proofs.lemmas.List.{take_all, length-take-le}
use Rattle.c_tree.specs.declared.typed.Expr.{Expr}
use Rattle.c_tree.specs.Views.{operands}
use Rattle.ordered_programs.specs.Uses.{MarksEach}
use Rattle.ordered_programs.proofs.Each.{item_read, one_more, all_come, taken_more}
use Rattle.ordered_programs.proofs.Marking.{none_marked, marks_turn}
use Rattle.ordered_programs.proofs.expressions.are_exprs_ordered.Goals as goal

pub loop-k-init : goal.loop-k-init
loop-k-init c = record {
  typed = λ j e lt g. absurd (omega arith);
  operands = none_marked (λ (e : Expr). operands e.kind) (λ k. k) c.args.marks.now.items;
}

pub loop-k-preserved : goal.loop-k-preserved
loop-k-preserved c =
    let xs = c.args.exprs.now in
    let i = c.loop-k.k in
    let x = c.index-exprs-k.result in
    let lt = c.loop-k-test.true in
    let ok = c.if-not-is_expr_ordered.false in
    record {
      typed = one_more (λ (j : ℕ) (e : Expr). e.of < c.args.types) xs i x (item_read xs i x lt c.index-exprs-k.is)
          c.loop-k.invariant.typed (c.is_expr_ordered.ensures.typed ok);
      operands = marks_turn (λ (e : Expr). operands e.kind) (λ k. k) (take (i + 1) xs) (take i xs) i x
          c.args.marks.now.items c.loop-k.marks.items c.is_expr_ordered.new.marks.items
          (length-take-le i xs (omega arith)) c.loop-k.invariant.operands (c.is_expr_ordered.ensures.operands ok)
          (taken_more xs i x lt c.index-exprs-k.is);
    }

pub returns : goal.returns
returns c = λ e.
    let xs = c.args.exprs.now in
    let i = c.loop-k.k in
    let past = c.loop-k-test.false in
    record {
      typed = all_come (λ (j : ℕ) (e : Expr). e.of < c.args.types) xs i past c.loop-k.invariant.typed;
      operands = subst (λ zs. MarksEach (λ (e : Expr). operands e.kind) (λ k. k) zs c.args.marks.now.items
          c.loop-k.marks.items) (take_all i xs past) c.loop-k.invariant.operands;
    }
