-- What is asked of a capability, or made of it, by a service.
use Rattle.std.specs.Prelude.{Result, Ok}
use Rattle.obj_mem.specs.Values.{Value, Int}
use Rattle.obj_mem.specs.declared.ending.Fault.{Fault}
use Rattle.cheri_c_sem.specs.Kinds.{nothing, number_of}
use Rattle.cheri_c_sem.specs.Operations.{Operations, on_ok}
use Rattle.cheri_c_sem.specs.Tree.{Service, Address, Bounds, Works}

-- the other services ask nothing of one
abbrev pub asked_of : {M : Type 0} → Operations M → M → Service → Value → Value → Result Value Fault
asked_of ops m Address v x = on_ok ops (λ a. Ok (Int a)) (ops.address m v)
asked_of ops m (Bounds exact) v x = ops.narrow m v (number_of x) exact
asked_of ops m (Works work) v x = ops.work m work v x
asked_of ops m service v x = Ok nothing
