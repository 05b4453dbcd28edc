use Rattle.std.proofs.Common.{ℕ, vec_len}
use Rattle.c_interner.specs.Levels.{AreBelow}
use Rattle.c_interner.proofs.composites.Composites.next_open.Given as goal

abbrev pub invariant-pairs : goal.invariant-pairs
invariant-pairs l = (n : ℕ) → AreBelow n l.fn.waiting.items → AreBelow n l.waiting.items

abbrev pub decreases-pairs : goal.decreases-pairs
decreases-pairs l = vec_len l.waiting
