use Rattle.std.proofs.Common.{length, ap, arith}
use Rattle.tac_ir.proofs.Weighing.{statement_within, function_is}
use Rattle.tac_ir.proofs.weights.function_weight.Goals as goal

pub returns : goal.returns
returns c = omega (
  arith,
  statement_within c.args.p.now _ c.args.f.now.body (ap length c.as_slice.ensures),
  ap length c.as_slice-2.ensures,
  function_is c.args.p.now c.args.f.now,
  c.statement_weight-body.ensures,
)
