use Rattle.std.proofs.Common.{◌≡◌, ℕ, ◌<◌, Some}
use Rattle.std.specs.Prelude.{slice_get}
use Rattle.c_tree.specs.declared.typed.CType.{CType}
use Rattle.plain_programs.specs.Plain.{TypePlain}
use Rattle.plain_programs.proofs.types.are_types_plain.Given as goal

abbrev pub invariant-loop-c : goal.invariant-loop-c
invariant-loop-c l = (j : ℕ) (x : CType) → j < l.c-index → slice_get l.types j ≡ Some x → TypePlain l.types x
