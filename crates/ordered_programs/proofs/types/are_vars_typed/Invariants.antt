use Rattle.std.proofs.Common.{◌≡◌, ℕ, ◌<◌, Some}
use Rattle.std.specs.Prelude.{slice_get}
use Rattle.c_tree.specs.declared.typed.VarDef.{VarDef}
use Rattle.ordered_programs.proofs.types.are_vars_typed.Given as goal

abbrev pub invariant-loop-v : goal.invariant-loop-v
invariant-loop-v l = (j : ℕ) (x : VarDef) → j < l.v-index → slice_get l.vars j ≡ Some x → x.of < l.n
