-- What an allocation comes to in the words of the meaning.
use Rattle.std.proofs.Common.{◌≡◌, ℕ, Result, Ok, Err, ap, sym}
use Rattle.obj_mem.specs.declared.ending.Fault.{Fault}
use Rattle.obj_mem.specs.declared.value.Value.{Value}
use Rattle.obj_mem.specs.Heap.{Allocation}
use Rattle.obj_mem.specs.Objects.{Memory}
use Rattle.obj_mem.specs.Values.{value_of}
use Rattle.cheri_c_sem.specs.Modes.{Store, taken}
use Rattle.object_memory.specs.Allocations.{Allocates}
use Rattle.object_memory.specs.declared.memory.AllocateFault.TheVariants as refusal

abbrev pub store : Memory → ℕ → Store
store m h = record { memory = m; heap = h }

pub allocated : (r : Result Allocation Fault) (m n : Memory) (h i : ℕ) (v : Value) → Allocates r m h (Ok v) n i →
    taken r ≡ Ok (value_of v, store n i)
allocated (Ok a) m n h i v (p, q, e) = cc
allocated (Err f) m n h i v q = absurd q

pub refused : (r : Result Allocation Fault) (m n : Memory) (h i : ℕ) (f : Fault) →
    Allocates r m h (Err (refusal.Fault f)) n i → (taken r ≡ Err f) × (store n i ≡ store m h)
refused (Ok a) m n h i f q = absurd q
refused (Err g) m n h i f (p, q, e) = (ap Err (sym p), cc)
