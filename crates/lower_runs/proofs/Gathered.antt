-- The laws, from the lemmas on each rule.
use Rattle.std.specs.Prelude.{ℕ}
use Rattle.lower_runs.specs.Expressions.{Signature}
use Rattle.lower_runs.specs.StatementLaws.{CallRules}
use Rattle.lower_runs.proofs.Calls.{no_arguments, one_argument, named_call, value_call}
use Rattle.lower_runs.specs.Laws.{Everywhere, OperandRules, ValueRules, LoadRules, PlaceRules, ConditionRules}
use Rattle.lower_runs.specs.Laws.{EffectRules, AssignmentRules}
use Rattle.lower_runs.proofs.Operands.{operand_in_place, operand_fresh, operand_in_place_of, operand_there, pair}
use Rattle.lower_runs.proofs.Values.{unplaced_value, number_value, null_value, variable_value, kept_value}
use Rattle.lower_runs.proofs.Values.{converted_value}
use Rattle.lower_runs.proofs.Values.{discarded_value, opposite_value, sign_value, whole_value, compare_value}
use Rattle.lower_runs.proofs.Values.{truth_value, comma_value}
use Rattle.lower_runs.proofs.Conditions.{chosen_value, branch_condition, opposite_condition, both_condition}
use Rattle.lower_runs.proofs.Conditions.{either_condition, both_around, either_around}
use Rattle.lower_runs.proofs.Places.{load_value, address_value, narrowed_value, local_place, global_place}
use Rattle.lower_runs.proofs.Places.{literal_place, function_place, deref_place, member_of_place, member_place}
use Rattle.lower_runs.proofs.Places.{aggregate_place, comma_place, choice_place, deref_pointer, local_pointer}
use Rattle.lower_runs.proofs.Places.{aggregate_pointer, fresh_pointer}
use Rattle.lower_runs.proofs.Effects.{still_effect, convert_effect, discard_effect, comma_effect, choice_effect}
use Rattle.lower_runs.proofs.Effects.{both_effect, either_effect, deref_effect, member_effect, aggregate_effect}
use Rattle.lower_runs.proofs.Effects.{value_effect, still_place_effect, deref_place_effect, member_place_effect}
use Rattle.lower_runs.proofs.Effects.{aggregate_place_effect, comma_place_effect, choice_place_effect}
use Rattle.lower_runs.proofs.Assignments.{variable_assignment, object_assignment, object_value_assignment}

pub operands_law : Everywhere OperandRules
operands_law ops placed w t p objects r call g scene = record {
  in_place = operand_in_place ops placed w t p objects r call g scene;
  fresh = operand_fresh ops placed w t p objects r call g scene;
  given_in_place = operand_in_place_of ops placed w t p objects r call g scene;
  given_there = operand_there ops placed w t p objects r call g scene;
  pair = pair ops placed w t p objects r call g scene;
}

pub values_law : Everywhere ValueRules
values_law ops placed w t p objects r call g scene = record {
  number = number_value ops placed w t p objects r call g scene;
  null = null_value ops placed w t p objects r call g scene;
  variable = variable_value ops placed w t p objects r call g scene;
  kept = kept_value ops placed w t p objects r call g scene;
  converted = converted_value ops placed w t p objects r call g scene;
  discarded = discarded_value ops placed w t p objects r call g scene;
  opposite = opposite_value ops placed w t p objects r call g scene;
  sign = sign_value ops placed w t p objects r call g scene;
  whole = whole_value ops placed w t p objects r call g scene;
  compare = compare_value ops placed w t p objects r call g scene;
  truth = truth_value ops placed w t p objects r call g scene;
  choice = chosen_value ops placed w t p objects r call g scene;
  comma = comma_value ops placed w t p objects r call g scene;
}

pub loads_law : Everywhere LoadRules
loads_law ops placed w t p objects r call g scene = record {
  load = load_value ops placed w t p objects r call g scene;
  address = address_value ops placed w t p objects r call g scene;
  unplaced = unplaced_value ops placed w t p objects r call g scene;
  narrowed = narrowed_value ops placed w t p objects r call g scene;
}

pub places_law : Everywhere PlaceRules
places_law ops placed w t p objects r call g scene = record {
  local = local_place ops placed w t p objects r call g scene;
  global = global_place ops placed w t p objects r call g scene;
  literal = literal_place ops placed w t p objects r call g scene;
  function = function_place ops placed w t p objects r call g scene;
  deref = deref_place ops placed w t p objects r call g scene;
  member_of = member_of_place ops placed w t p objects r call g scene;
  member = member_place ops placed w t p objects r call g scene;
  aggregate = aggregate_place ops placed w t p objects r call g scene;
  comma = comma_place ops placed w t p objects r call g scene;
  choice = choice_place ops placed w t p objects r call g scene;
  pointer_deref = deref_pointer ops placed w t p objects r call g scene;
  pointer_local = local_pointer ops placed w t p objects r call g scene;
  pointer_aggregate = aggregate_pointer ops placed w t p objects r call g scene;
  pointer_fresh = fresh_pointer ops placed w t p objects r call g scene;
}

pub conditions_law : Everywhere ConditionRules
conditions_law ops placed w t p objects r call g scene = record {
  branch = branch_condition ops placed w t p objects r call g scene;
  opposite = opposite_condition ops placed w t p objects r call g scene;
  both = both_condition ops placed w t p objects r call g scene;
  either = either_condition ops placed w t p objects r call g scene;
  both_around = both_around ops placed w t p objects r call g scene;
  either_around = either_around ops placed w t p objects r call g scene;
}

pub effects_law : Everywhere EffectRules
effects_law ops placed w t p objects r call g scene = record {
  still = still_effect ops placed w t p objects r call g scene;
  convert = convert_effect ops placed w t p objects r call g scene;
  discard = discard_effect ops placed w t p objects r call g scene;
  comma = comma_effect ops placed w t p objects r call g scene;
  choice = choice_effect ops placed w t p objects r call g scene;
  both = both_effect ops placed w t p objects r call g scene;
  either = either_effect ops placed w t p objects r call g scene;
  deref = deref_effect ops placed w t p objects r call g scene;
  member = member_effect ops placed w t p objects r call g scene;
  aggregate = aggregate_effect ops placed w t p objects r call g scene;
  value = value_effect ops placed w t p objects r call g scene;
  place_still = still_place_effect ops placed w t p objects r call g scene;
  place_deref = deref_place_effect ops placed w t p objects r call g scene;
  place_member = member_place_effect ops placed w t p objects r call g scene;
  place_aggregate = aggregate_place_effect ops placed w t p objects r call g scene;
  place_comma = comma_place_effect ops placed w t p objects r call g scene;
  place_choice = choice_place_effect ops placed w t p objects r call g scene;
}

pub assignments_law : Everywhere AssignmentRules
assignments_law ops placed w t p objects r call g scene = record {
  variable = variable_assignment ops placed w t p objects r call g scene;
  object = object_assignment ops placed w t p objects r call g scene;
  object_value = object_value_assignment ops placed w t p objects r call g scene;
}

pub calls_law : (signs : ℕ → Signature) →
    Everywhere (λ ops w t p objects r call g. CallRules ops w t p objects r call g signs)
calls_law signs ops placed w t p objects r call g scene = record {
  no_arguments = no_arguments ops placed w t p objects call signs r g scene;
  one_argument = one_argument ops placed w t p objects call signs r g scene;
  named = named_call ops placed w t p objects call signs r g scene;
  by_value = value_call ops placed w t p objects call signs r g scene;
}
