use Rattle.std.proofs.Common.{◌≡◌, length, map}
use Rattle.std.specs.Prelude.{slice_get}
use Rattle.c_tree.specs.Layout.{bare}
use Rattle.cheri_c_sem.specs.Types.{scalar_of}
use Rattle.tac_ir.specs.WellFormed.{begins_with, param_kinds, kind_or_int, type_of_param}
use Rattle.tac_ir.proofs.checking.begins_with_params.Given as goal

abbrev pub invariant-loop-param : goal.invariant-loop-param
invariant-loop-param l =
    begins_with l.kinds (param_kinds l.p l.d)
    ≡ begins_with l.given (map (λ x. kind_or_int (scalar_of (bare l.p.types (type_of_param (slice_get l.d.vars x)))))
    l.left)

abbrev pub decreases-loop-param : goal.decreases-loop-param
decreases-loop-param l = length l.left
