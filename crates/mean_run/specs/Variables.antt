-- What stands in a variable.
use Rattle.std.specs.Prelude.{Option, Some, None, Result, Ok}
use Rattle.obj_mem.specs.Values.{Value}
use Rattle.obj_mem.specs.declared.ending.Fault.{Fault}
use Rattle.cheri_c_sem.specs.Kinds.{Kind}
use Rattle.cheri_c_sem.specs.Operations.{Operations}

-- the value that a variable was given, or what stands for one that was given none
abbrev pub variable_at : {M : Type 0} → Operations M → Kind → Option (Option Value) → Result Value Fault
variable_at ops k (Some (Some v)) = Ok v
variable_at ops k (Some None) = ops.unset k
variable_at ops k None = ops.unset k
