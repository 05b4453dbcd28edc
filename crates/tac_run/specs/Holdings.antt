-- What memory under a map is in the words of the meaning.
use Rattle.std.specs.Prelude.{◌≡◌, Result, Ok, Err}
use Rattle.obj_mem.specs.declared.ending.Fault.{Fault}
use Rattle.obj_mem.specs.declared.map.Map.{Map}
use Rattle.obj_mem.specs.declared.value.Value as public
use Rattle.obj_mem.specs.Objects.{Placed}
use Rattle.obj_mem.specs.Table.{addresses_of}
use Rattle.obj_mem.specs.Values.{Value, value_of}
use Rattle.cheri_c_sem.specs.Modes.{Store, operations, placed_plan}
use Rattle.cheri_c_sem.specs.Operations.{Operations}
use Rattle.object_memory.specs.declared.memory.AllocateFault as refused
use Rattle.object_memory.specs.declared.memory.AllocateFault.TheVariants as refusal
use Rattle.object_memory.specs.declared.memory.Memory as kept
use Rattle.object_memory.specs.Answers.{mode_of}
use Rattle.object_memory.specs.State.{memory_of}

abbrev pub store_of : kept.Memory → Store
store_of m = record { memory = memory_of m; heap = m.heap }

-- memory keeps the addresses of a map
abbrev pub IsUnder : Map → kept.Memory → Type 0
IsUnder m k = mode_of k.mode ≡ Placed (addresses_of m)

-- a map, and what is held of memory under it
pub record Holding : Type 0 where
  pub map : Map
  pub store : Store

abbrev pub ops_of : Holding → Operations Store
ops_of h = operations (placed_plan h.map)

abbrev pub with_store : Holding → Store → Holding
with_store h s = record h { store = s }

-- What was to be changed was, or is as it was
abbrev pub Changes : {U E : Type 0} → Result Store E → Holding → Result U E → Holding → Type 0
Changes (Ok s) old (Ok u) new = new ≡ with_store old s
Changes (Err e) old (Err f) new = (f ≡ e) × (new ≡ old)
Changes (Ok s) old (Err f) new = ⊥
Changes (Err e) old (Ok u) new = ⊥

-- An allocation was done; or it faults; or there is no room for what is kept of the object
abbrev pub Takes : Result (Value × Store) Fault → Holding → Result public.Value refused.AllocateFault → Holding → Type 0
Takes (Ok r) old (Ok v) new = (value_of v ≡ r.0) × (new ≡ with_store old r.1)
Takes (Ok r) old (Err refusal.NoMemory) new = Unit {0}
Takes (Ok r) old (Err (refusal.Fault f)) new = ⊥
Takes (Err e) old (Err (refusal.Fault f)) new = f ≡ e
Takes (Err e) old (Err refusal.NoMemory) new = ⊥
Takes (Err e) old (Ok v) new = ⊥
