use Rattle.std.proofs.Common.{◌≡◌, ℕ, ◌<◌, Some}
use Rattle.std.specs.Prelude.{slice_get}
use Rattle.obj_mem.specs.Needs.{weight_in}
use Rattle.tac_ir.specs.Within.{FunctionCosts}
use Rattle.tac_ir.specs.declared.code.TacFun.{TacFun}
use Rattle.tac_ir.proofs.within.is_within_costs.Given as goal

abbrev pub invariant-loop-k : goal.invariant-loop-k
invariant-loop-k l = (j : ℕ) (f : TacFun) → j < l.k → slice_get l.t.funs j ≡ Some f → FunctionCosts (weight_in l.p j) f
