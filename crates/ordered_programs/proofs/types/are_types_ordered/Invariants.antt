use Rattle.std.proofs.Common.{◌≡◌, ℕ, ◌<◌, length, Some}
use Rattle.std.specs.Prelude.{slice_get}
use Rattle.c_tree.specs.declared.typed.CType.{CType}
use Rattle.c_tree.specs.Views.{Below}
use Rattle.ordered_programs.proofs.types.are_types_ordered.Given as goal

abbrev pub invariant-loop-k : goal.invariant-loop-k
invariant-loop-k l = (j : ℕ) (x : CType) → j < l.k → slice_get l.types j ≡ Some x → Below (length l.types) j x
