use Rattle.std.proofs.Common.{◌≡◌, ℕ, ◌<◌, ◌≤◌, Some}
use Rattle.std.specs.Prelude.{slice_get}
use Rattle.c_tree.specs.declared.typed.FunDef.{FunDef}
use Rattle.c_tree.specs.TreeWeight.{function_weight, function_limit}
use Rattle.accepted_files.proofs.weights.are_light.Given as goal

abbrev pub invariant-loop-f : goal.invariant-loop-f
invariant-loop-f l =
    (k : ℕ) (f : FunDef) → k < l.f-index → slice_get l.p.funs k ≡ Some f → function_weight l.p f ≤ function_limit
