use Rattle.c_operand_rules.proofs.Arguments.{Reached}
use Rattle.c_operand_rules.proofs.calls.arguments.Given as goal

abbrev pub invariant-loop-k : goal.invariant-loop-k
invariant-loop-k l = Reached l.fn.nodes l.nodes l.params l.xs l.k l.values.items
