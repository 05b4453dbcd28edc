-- What an allocation answers and leaves, against what is meant, and what is asked of a frame.
use Rattle.std.specs.Prelude.{◌≡◌, ℕ, ◌^◌, ◌<◌, Some, Result, Ok, Err}
use Rattle.obj_mem.specs.declared.ending.Fault.{Fault}
use Rattle.obj_mem.specs.declared.value.Value as public
use Rattle.obj_mem.specs.Values.{Value, value_of}
use Rattle.cheri_c_sem.specs.Operations.{Operations}
use Rattle.mean_run.specs.declared.storage.AllocateFault as refused
use Rattle.mean_run.specs.declared.storage.AllocateFault.TheVariants as refusal

-- the value and the memory that are meant; or the fault that is meant, with memory as it was; for want of memory
-- nothing is said
abbrev pub Allocated : {M : Type 0} → Result (Value × M) Fault → M → M → Result public.Value refused.AllocateFault →
    Type 0
Allocated r old new (Ok v) = r ≡ Ok (value_of v, new)
Allocated r old new (Err (refusal.Fault f)) = (r ≡ Err f) × (new ≡ old)
Allocated r old new (Err refusal.NoMemory) = Unit {0}

-- a function's frame with this address was entered below an address
abbrev pub IsEntered : {M : Type 0} → Operations M → (f frame : ℕ) → Type 0
IsEntered ops f frame = (address : ℕ) × (address < 2 ^ 64) × (ops.enter f address ≡ Some frame)
