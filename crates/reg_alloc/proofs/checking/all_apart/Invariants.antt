use Rattle.std.proofs.Common.{◌<◌, ℕ}
use Rattle.reg_alloc.specs.Placed.{ApartAt}
use Rattle.reg_alloc.proofs.checking.all_apart.Given as goal

abbrev pub invariant-loop-i : goal.invariant-loop-i
invariant-loop-i l = (k j : ℕ) → j < k → k < l.i → ApartAt l.live l.homes k j
