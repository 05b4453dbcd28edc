-- The laws of statements, from the lemmas on each rule.
use Rattle.lower_runs.specs.StatementLaws.{InEachFunction, StatementRules, BodyRules, BlockRules, LoopRules}
use Rattle.lower_runs.proofs.Statements.{end_statements, seq_statements, evaluated_statement, variable_statement}
use Rattle.lower_runs.proofs.Statements.{choice_statement, guarded_statement, break_statement, continue_statement}
use Rattle.lower_runs.proofs.Statements.{return_statement, return_nothing_statement, return_value_statement}
use Rattle.lower_runs.proofs.Statements.{empty_statement}
use Rattle.lower_runs.proofs.Switches.{body_end, body_among}
use Rattle.lower_runs.proofs.Fills.{struct_statement}
use Rattle.lower_runs.proofs.Loops.{object_statement, block_statement, enter_none, enter_simple, enter_object, no_test}
use Rattle.lower_runs.proofs.Loops.{some_test, no_step, some_step, while_statement, do_statement, for_statement}

pub statements_law : InEachFunction StatementRules
statements_law ops placed w t p objects r call result = record {
  end = end_statements ops placed w t p objects r call result;
  seq = seq_statements ops placed w t p objects r call result;
  evaluated = evaluated_statement ops placed w t p objects r call result;
  variable = variable_statement ops placed w t p objects r call result;
  object = object_statement ops placed w t p objects r call result;
  struct = struct_statement ops placed w t p objects r call result;
  block = block_statement ops placed w t p objects r call result;
  choice = choice_statement ops placed w t p objects r call result;
  guarded = guarded_statement ops placed w t p objects r call result;
  leaves = break_statement ops placed w t p objects r call result;
  continues = continue_statement ops placed w t p objects r call result;
  returns = return_statement ops placed w t p objects r call result;
  returns_nothing = return_nothing_statement ops placed w t p objects r call result;
  returns_value = return_value_statement ops placed w t p objects r call result;
  empty = empty_statement ops placed w t p objects r call result;
}

pub bodies_law : InEachFunction BodyRules
bodies_law ops placed w t p objects r call result = record {
  last = body_end ops placed w t p objects r call result;
  among = λ g x label number ls a ss l m n c d below f h.
      body_among ops placed w t p objects r call result g x label number ls a ss l m n c d below f h;
}

pub blocks_law : InEachFunction BlockRules
blocks_law ops placed w t p objects r call result = record {
  none = enter_none ops placed w t p objects r call result;
  simple = enter_simple ops placed w t p objects r call result;
  object = enter_object ops placed w t p objects r call result;
}

pub loops_law : InEachFunction LoopRules
loops_law ops placed w t p objects r call result = record {
  no_test = no_test ops placed w t p objects r call result;
  some_test = some_test ops placed w t p objects r call result;
  no_step = no_step ops placed w t p objects r call result;
  some_step = some_step ops placed w t p objects r call result;
  looped = while_statement ops placed w t p objects r call result;
  repeated = do_statement ops placed w t p objects r call result;
  counted = for_statement ops placed w t p objects r call result;
}
