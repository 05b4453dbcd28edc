use Rattle.std.proofs.Common.{◌<◌, ℕ}
use Rattle.reg_alloc.specs.Placed.{FitsAt}
use Rattle.reg_alloc.proofs.checking.all_fit.Given as goal

abbrev pub invariant-loop-i : goal.invariant-loop-i
invariant-loop-i l = (k : ℕ) → k < l.i → FitsAt l.live l.calls l.homes k
