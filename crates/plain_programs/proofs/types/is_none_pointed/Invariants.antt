use Rattle.std.proofs.Common.{◌≡◌, ℕ, ◌<◌, false, Some}
use Rattle.std.specs.Prelude.{slice_get}
use Rattle.c_tree.specs.Passed.{by_pointer}
use Rattle.passing_steps.specs.Numbered.{type_in}
use Rattle.plain_programs.proofs.types.is_none_pointed.Given as goal

abbrev pub invariant-loop-t : goal.invariant-loop-t
invariant-loop-t l =
    (j t : ℕ) → j < l.t-index → slice_get l.ts j ≡ Some t → by_pointer (type_in l.types t) ≡ false
