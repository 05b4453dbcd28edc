-- Bases of the pointers that a run under a map has.
use Rattle.std.specs.Prelude.{◌≡◌, ℕ, suc, ◌+◌, ◌^◌, ◌<◌, ◌≤◌, Bool, List, length, Some, IfOk, slice_get}
use Rattle.std.specs.Prelude.{slice_index_or}
use Rattle.obj_mem.specs.declared.map.Map.{Map}
use Rattle.obj_mem.specs.Values.{Value, Int, Live, Fun, Raw}
use Rattle.obj_mem.specs.Objects.{Shape, Content, Memory, base_in, value_at}
use Rattle.cheri_c_sem.specs.Modes.{Store, operations, placed_plan, local_offset}
use Rattle.cheri_c_sem.specs.Operations.{Operations, Work}

-- A pointer's object is there, and the base of its bounds is a number of 64 bits
abbrev pub IsBased : List Shape → Value → Type 0
IsBased shapes (Int n) = Unit {0}
IsBased shapes (Live object low high offset permissions) =
    (object < length shapes) × (base_in shapes object + low < 2 ^ 64)
IsBased shapes (Fun f) = Unit {0}
IsBased shapes (Raw address upper) = Unit {0}

-- memory in which all are such, and the bases of objects are too
pub record AreBased (m : Memory) : Type 0 where
  pub bases : (k : ℕ) → base_in m.shapes k < 2 ^ 64
  pub values : (k g : ℕ) (c : Content) (v : Value) → slice_get m.contents k ≡ Some c → value_at c g ≡ Some v →
      IsBased m.shapes v

-- objects stay where they are
pub record Grows (old new : List Shape) : Type 0 where
  pub longer : length old ≤ length new
  pub same : (k : ℕ) → k < length old → base_in new k ≡ base_in old k

-- what memory becomes
pub record Lasts (old new : Store) : Type 0 where
  pub based : AreBased new.memory
  pub grows : Grows old.memory.shapes new.memory.shapes

-- Operations of such memory keep it such, and give such pointers
pub record KeepBases (m : Map) (ops : Operations Store) : Type 0 where
  pub offset : (s : Store) (v : Value) (by : ℕ) → IsBased s.memory.shapes v →
      IfOk (ops.offset s v by) (IsBased s.memory.shapes)
  pub narrow : (s : Store) (v : Value) (n : ℕ) (exact : Bool) → IsBased s.memory.shapes v →
      IfOk (ops.narrow s v n exact) (IsBased s.memory.shapes)
  pub work : (s : Store) (w : Work) (v x : Value) → IsBased s.memory.shapes v →
      IfOk (ops.work s w v x) (IsBased s.memory.shapes)
  pub load : (s : Store) (p : Value) (n : ℕ) → AreBased s.memory → IfOk (ops.load s p n) (IsBased s.memory.shapes)
  pub store : (s : Store) (p v : Value) (n : ℕ) → AreBased s.memory → IsBased s.memory.shapes v →
      IfOk (ops.store s p n v) (Lasts s)
  pub copy_unit : (s : Store) (from to : Value) (n : ℕ) → AreBased s.memory → IfOk (ops.copy_unit s from to n) (Lasts s)
  pub empty : AreBased ops.empty.memory
  pub add_global : (s : Store) (k n : ℕ) → AreBased s.memory → slice_index_or m.globals k 0 < 2 ^ 64 →
      Lasts s (ops.add_global s k n)
  pub add_literal : (s : Store) (k n : ℕ) → AreBased s.memory → slice_index_or m.literals k 0 < 2 ^ 64 →
      Lasts s (ops.add_literal s k n)
  pub add_local : (s : Store) (frame f k n : ℕ) → AreBased s.memory →
      frame + local_offset (slice_get m.frames f) k < 2 ^ 64 → Lasts s (ops.add_local s frame f k n)
  pub count : (s : Store) → ops.count s ≡ length s.memory.shapes
  pub count_local : (s : Store) (frame f k n : ℕ) → ops.count (ops.add_local s frame f k n) ≡ suc (ops.count s)
  pub whole : (s : Store) (object permissions : ℕ) → AreBased s.memory → object < length s.memory.shapes →
      IsBased s.memory.shapes (ops.whole s object permissions)
  pub zero : (s : Store) (object : ℕ) → AreBased s.memory → Lasts s (ops.zero s object)
  pub end : (s : Store) (object : ℕ) → AreBased s.memory → Lasts s (ops.end s object)
  pub allocate : (s : Store) (n : ℕ) → AreBased s.memory →
      IfOk (ops.allocate s n) (λ r. IsBased r.1.memory.shapes r.0 × Lasts s r.1)

-- under a map whose heap ends below 2^64
abbrev pub MapsKeepBases : Type 0
MapsKeepBases = (m : Map) → m.heap.0 + m.heap.1 < 2 ^ 64 → KeepBases m (operations (placed_plan m))
