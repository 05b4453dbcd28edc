use Rattle.std.proofs.Common.{◌<◌, ℕ}
use Rattle.reg_alloc.specs.Placed.{ApartAt}
use Rattle.reg_alloc.proofs.checking.is_apart_from_earlier.Given as goal

abbrev pub invariant-loop-j : goal.invariant-loop-j
invariant-loop-j l = (k : ℕ) → k < l.j → ApartAt l.live l.homes l.i k
