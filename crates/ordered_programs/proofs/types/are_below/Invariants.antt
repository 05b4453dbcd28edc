use Rattle.std.proofs.Common.{◌≡◌, ℕ, ◌<◌, Some}
use Rattle.std.specs.Prelude.{slice_get}
use Rattle.ordered_programs.proofs.types.are_below.Given as goal

abbrev pub invariant-loop-t : goal.invariant-loop-t
invariant-loop-t l = (j q : ℕ) → j < l.t-index → slice_get l.ts j ≡ Some q → q < l.k
