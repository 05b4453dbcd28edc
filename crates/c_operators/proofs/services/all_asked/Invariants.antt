use Rattle.c_operators.proofs.Asking.{Asking}
use Rattle.c_operators.proofs.services.all_asked.Given as goal

abbrev pub invariant-loop-k : goal.invariant-loop-k
invariant-loop-k l = Asking l.fn.nodes l.nodes l.takes l.xs l.k l.values.items
