use Rattle.std.proofs.Common.{length}
use Rattle.c_lex.proofs.Strings.{SameRest}
use Rattle.c_lex.proofs.literals.is_string.Given as goal

abbrev pub invariant-loop-n : goal.invariant-loop-n
invariant-loop-n l = SameRest l.initial.rest l.rest

abbrev pub decreases-loop-n : goal.decreases-loop-n
decreases-loop-n l = length l.rest
