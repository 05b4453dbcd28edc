use Rattle.std.proofs.Common.{◌≡◌, ℕ, ◌<◌, Some}
use Rattle.std.specs.Prelude.{slice_get}
use Rattle.c_tree.specs.declared.typed.FunDef.{FunDef}
use Rattle.plain_programs.specs.Plain.{ParamsPlain}
use Rattle.plain_programs.proofs.program.are_functions_plain.Given as goal

abbrev pub invariant-loop-f : goal.invariant-loop-f
invariant-loop-f l = (j : ℕ) (x : FunDef) → j < l.f-index → slice_get l.funs j ≡ Some x → ParamsPlain l.types x
