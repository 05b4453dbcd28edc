use Rattle.std.proofs.Common.{arith}
use Rattle.c_tree.specs.Views.{parts}
use Rattle.tac_ir.specs.Weights.{statement_weight, before}
use Rattle.tac_ir.proofs.Weighing.{sum_one_more, sum_of_all, statement_node, statement_nowhere, before_true}
use Rattle.tac_ir.proofs.weights.+statement_weight.Goals as goal

pub loop-i-preserved : goal.loop-i-preserved
loop-i-preserved t c =
    let more = sum_one_more (before (statement_weight c.args.p.now) c.args.k)
    (parts c.in-Some.s.now.kind) c.loop-i.i _ c.part-part.ensures in
    omega (arith, more, c.saturating_add-total-in-loop-i.ensures, c.statement_weight.ensures, c.loop-i.invariant)

pub returns-in-None : goal.returns-in-None
returns-in-None t c =
    omega (
      arith,
      before_true (statement_weight c.args.p.now) c.args.limit c.args.k c.if-k-limit.false,
      statement_nowhere c.args.p.now c.args.k c.in-None.ensures,
    )

pub returns-after-loop-i : goal.returns-after-loop-i
returns-after-loop-i t c =
    let all = sum_of_all (before (statement_weight c.args.p.now) c.args.k) (parts c.in-Some.s.now.kind) c.loop-i.i
    (omega arith) in
    let node = statement_node c.args.p.now c.args.k c.in-Some.s.now c.in-Some.ensures in
    omega (
      arith,
      all,
      node,
      c.loop-i.invariant,
      before_true (statement_weight c.args.p.now) c.args.limit c.args.k c.if-k-limit.false,
    )
