use Rattle.std.proofs.Common.{◌≡◌, ℕ, ◌<◌, Some}
use Rattle.std.specs.Prelude.{slice_get}
use Rattle.c_type_levels.proofs.heads.all_before.Given as goal

abbrev pub invariant-loop-p : goal.invariant-loop-p
invariant-loop-p l = (j q : ℕ) → j < l.p-index → slice_get l.params j ≡ Some q → q < l.k
