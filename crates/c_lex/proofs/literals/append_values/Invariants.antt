use Rattle.std.proofs.Common.{length}
use Rattle.c_lex.proofs.Strings.{Unescaped}
use Rattle.c_lex.proofs.literals.append_values.Given as goal

abbrev pub invariant-loop-value : goal.invariant-loop-value
invariant-loop-value l = Unescaped l.fn.into.items l.into.items l.fn.characters l.rest

abbrev pub decreases-loop-value : goal.decreases-loop-value
decreases-loop-value l = length l.rest
