use Rattle.std.proofs.Common.{ℕ}
use Rattle.c_tree.specs.declared.typed.Expr.{Expr}
use Rattle.ordered_programs.proofs.Each.{item_read, one_more, all_come}
use Rattle.plain_programs.specs.Plain.{CallPlain}
use Rattle.plain_programs.proofs.nodes.are_calls_plain.Goals as goal

pub loop-e-preserved : goal.loop-e-preserved
loop-e-preserved c =
    let xs = c.args.exprs.now in
    let i = c.loop-e.e-index in
    let x = c.e-item.result in
    one_more (λ (j : ℕ) (x : Expr). CallPlain c.args.p.now x.kind x.of) xs i x
    (item_read xs i x c.loop-e-test.true c.e-item.is)
    c.loop-e.invariant (c.is_call_plain.ensures c.if-not-is_call_plain.false)

pub returns : goal.returns
returns c = λ e. all_come (λ (j : ℕ) (x : Expr). CallPlain c.args.p.now x.kind x.of) c.args.exprs.now c.loop-e.e-index
    c.loop-e-test.false c.loop-e.invariant
