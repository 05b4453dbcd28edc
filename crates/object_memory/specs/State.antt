-- The memory that the code keeps, as the definitions say it.
use Rattle.std.specs.Prelude.{◌≡◌, ℕ, length, Option, Some, None}
use Rattle.obj_mem.specs.Objects.{Memory}
use Rattle.object_memory.specs.declared.memory.Memory as kept
use Rattle.object_memory.specs.Memories.{memory_at}

abbrev pub memory_of : kept.Memory → Memory
memory_of m = memory_at m.objects.items m.notes.items

-- how many objects there are
abbrev pub count_of : Memory → ℕ
count_of m = length m.shapes

-- a base that was given
abbrev pub base_or : Option ℕ → ℕ
base_or None = 0
base_or (Some b) = b

-- what a run knows of addresses and of its heap is as it was
pub record SameBeside (old new : kept.Memory) : Type 0 where
  pub mode : new.mode ≡ old.mode
  pub heap : new.heap ≡ old.heap
