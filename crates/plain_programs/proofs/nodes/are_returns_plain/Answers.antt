use Rattle.std.proofs.Common.{ℕ}
use Rattle.c_tree.specs.declared.typed.Stmt.{Stmt}
use Rattle.ordered_programs.proofs.Each.{item_read, one_more, all_come}
use Rattle.plain_programs.specs.Plain.{ReturnPlain}
use Rattle.plain_programs.proofs.nodes.are_returns_plain.Goals as goal

pub loop-s-preserved : goal.loop-s-preserved
loop-s-preserved c =
    let xs = c.args.stmts.now in
    let i = c.loop-s.s-index in
    let x = c.s-item.result in
    one_more (λ (j : ℕ) (x : Stmt). ReturnPlain c.args.p.now x.kind) xs i x
    (item_read xs i x c.loop-s-test.true c.s-item.is)
    c.loop-s.invariant (c.is_return_plain.ensures c.if-not-is_return_plain.false)

pub returns : goal.returns
returns c = λ e. all_come (λ (j : ℕ) (x : Stmt). ReturnPlain c.args.p.now x.kind) c.args.stmts.now c.loop-s.s-index
    c.loop-s-test.false c.loop-s.invariant
