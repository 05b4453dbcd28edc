use Rattle.std.proofs.Common.{vec_len}
use Rattle.c_interner.proofs.agreement.Agreements.next_open.Given as goal

abbrev pub decreases-pairs : goal.decreases-pairs
decreases-pairs l = vec_len l.waiting
