use Rattle.std.proofs.Common.{arith}
use Rattle.c_tree.specs.Views.{operands}
use Rattle.tac_ir.specs.Weights.{expression_weight, before}
use Rattle.tac_ir.proofs.Weighing.{sum_one_more, sum_of_all, expression_node, expression_nowhere, before_true}
use Rattle.tac_ir.proofs.weights.+expression_weight.Goals as goal

pub loop-i-preserved : goal.loop-i-preserved
loop-i-preserved t c =
    let more = sum_one_more (before (expression_weight c.args.p.now) c.args.k)
    (operands c.in-Some.e.now.kind) c.loop-i.i _ c.operand-operand.ensures in
    omega (arith, more, c.saturating_add-total.ensures, c.expression_weight.ensures, c.loop-i.invariant)

pub returns-in-None : goal.returns-in-None
returns-in-None t c =
    omega (
      arith,
      before_true (expression_weight c.args.p.now) c.args.limit c.args.k c.if-k-limit.false,
      expression_nowhere c.args.p.now c.args.k c.in-None.ensures,
    )

pub returns-after-loop-i : goal.returns-after-loop-i
returns-after-loop-i t c =
    let all = sum_of_all (before (expression_weight c.args.p.now) c.args.k) (operands c.in-Some.e.now.kind) c.loop-i.i
    (omega arith) in
    let node = expression_node c.args.p.now c.args.k c.in-Some.e.now c.in-Some.ensures in
    omega (
      arith,
      all,
      node,
      c.loop-i.invariant,
      before_true (expression_weight c.args.p.now) c.args.limit c.args.k c.if-k-limit.false,
    )
