use Rattle.std.proofs.Common.{take}
use Rattle.ordered_programs.specs.Uses.{Marks}
use Rattle.ordered_programs.proofs.marks.mark_all.Given as goal

abbrev pub invariant-loop-k : goal.invariant-loop-k
invariant-loop-k l = Marks l.limit l.initial.marks.items l.marks.items (take l.k-index l.ks)
