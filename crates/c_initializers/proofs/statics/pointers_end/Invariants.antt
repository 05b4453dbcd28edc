use Rattle.std.proofs.Common.{◌≡◌, ◌+◌, max, fold, take}
use Rattle.c_elaborator.specs.declared.work.Start.{Start}
use Rattle.c_initializers.proofs.statics.pointers_end.Given as goal

abbrev pub invariant-loop-x : goal.invariant-loop-x
invariant-loop-x l = l.end ≡ fold (λ n (x : Start). max n (x.at + 16)) 0 (take l.x-index l.starts)
