use Rattle.std.proofs.Common.{◌≡◌, ℕ, ◌<◌, Some}
use Rattle.std.specs.Prelude.{slice_get}
use Rattle.c_tree.specs.declared.typed.GlobalDef.{GlobalDef}
use Rattle.ordered_programs.proofs.types.are_globals_typed.Given as goal

abbrev pub invariant-loop-g : goal.invariant-loop-g
invariant-loop-g l = (j : ℕ) (x : GlobalDef) → j < l.g-index → slice_get l.globals j ≡ Some x → x.of < l.n
