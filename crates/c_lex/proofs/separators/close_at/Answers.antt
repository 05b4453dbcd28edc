use Rattle.std.proofs.Common.{arith}
use Rattle.c_lex.proofs.Comments.{close_nowhere}
use Rattle.c_lex.proofs.separators.close_at.Goals as goal

pub returns-clause-none : goal.returns-clause-none
returns-clause-none c = close_nowhere c.args.bytes.now c.loop-i.i (omega arith) c.loop-i.invariant
