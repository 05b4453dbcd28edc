-- The result for expressions, by the induction.
use Rattle.lower_runs.specs.Result.{ExpressionsRun}
use Rattle.lower_runs.proofs.Induction.{value_ok, operand_ok, effect_ok, condition_ok, place_ok}

pub expressions_law : ExpressionsRun
expressions_law ops placed w t p objects r call signs g scene bytes calls = record {
  value = value_ok ops placed w t p objects r call signs g scene bytes calls;
  operand = operand_ok ops placed w t p objects r call signs g scene bytes calls;
  effect = effect_ok ops placed w t p objects r call signs g scene bytes calls;
  condition = condition_ok ops placed w t p objects r call signs g scene bytes calls;
  place = place_ok ops placed w t p objects r call signs g scene bytes calls;
}
