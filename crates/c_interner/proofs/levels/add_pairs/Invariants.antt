use Rattle.std.proofs.Common.{◌≡◌, ◌++◌, take}
use Rattle.c_type_levels.specs.Levels.{pairs_of}
use Rattle.c_interner.proofs.levels.add_pairs.Given as goal

abbrev pub invariant-loop-k : goal.invariant-loop-k
invariant-loop-k l = l.pairs.items ≡ l.fn.pairs.items ++ pairs_of (take l.k l.ps) (take l.k l.qs)
