use Rattle.std.proofs.Common.{length, ap, arith}
use Rattle.c_tree.specs.Views.{values}
use Rattle.tac_ir.specs.Weights.{expression_weight}
use Rattle.tac_ir.proofs.Weighing.{sum_one_more, expression_within}
use Rattle.tac_ir.proofs.weights.values_weight.Goals as goal

pub loop-i-preserved : goal.loop-i-preserved
loop-i-preserved c =
    let more = sum_one_more (expression_weight c.args.p.now) (values c.args.kind.now) c.loop-i.i _ c.value.ensures in
    omega (
      arith,
      more,
      expression_within c.args.p.now _ c.value.result (ap length c.as_slice-limit.ensures),
      c.loop-i.invariant,
      c.expression_weight.ensures,
    )
