-- Calls on memory under a map are the operations of its plan.
use Rattle.std.proofs.Common.{ℕ}
use Rattle.obj_mem.specs.declared.map.Map.{Map}
use Rattle.obj_mem.specs.declared.value.Value as public
use Rattle.obj_mem.specs.Access.{store}
use Rattle.obj_mem.specs.Objects.{Memory}
use Rattle.object_memory.specs.declared.memory.AllocateFault as refused
use Rattle.object_memory.specs.declared.memory.AllocateFault.TheVariants as refusal
use Rattle.object_memory.specs.declared.memory.Memory as kept
use Rattle.tac_run.specs.Holdings.{Holding, store_of}

abbrev holding : Map → kept.Memory → Holding
holding m k = record { map = m; store = store_of k }

abbrev at_store : Map → Memory → ℕ → Holding
at_store m memory heap = record { map = m; store = record { memory = memory; heap = heap } }
