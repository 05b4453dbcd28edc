-- When memory as separate objects and the memory of the machine stand for one another.
use Rattle.std.specs.Prelude.{◌≡◌, ℕ, ◌+◌, ◌/◌, ◌%◌, ◌<◌, ◌≤◌, true, List, length, Option, Some, None, is_some}
use Rattle.std.specs.Prelude.{slice_get}
use Rattle.tag_mem.specs.Areas.{Area, IsMemory, is_inside, byte_at, tag_at}
use Rattle.obj_mem.specs.Values.{Value, Addresses, is_tagged}
use Rattle.obj_mem.specs.Objects as object
use Rattle.obj_mem.specs.Objects.{Cell, Byte, Unwritten, PartOf, Life, Active, Shape, Content, Memory, Placed, cell_or}
use Rattle.obj_mem.specs.Objects.{value_at}
use Rattle.obj_mem.specs.Standing.{IsSpread}
use Rattle.place_inject.specs.Values.{IsKnown}

-- ---- what stands in an object

-- a byte of a placed run
abbrev pub IsByte : Cell → Type 0
IsByte (Byte b) = b < 256
IsByte Unwritten = ⊥
IsByte (PartOf v k) = ⊥

-- A byte for each place of the owned length, and for each granule a tagged value or none
pub record IsSound (shapes : List Shape) (functions : ℕ) (s : Shape) (c : Content) : Type 0 where
  pub cells : length c.cells ≡ s.owned
  pub granules : length c.values ≡ (s.owned + 15) / 16
  pub bytes : (i : ℕ) → i < s.owned → IsByte (cell_or (slice_get c.cells i))
  pub tagged : (g : ℕ) (v : Value) → value_at c g ≡ Some v → is_tagged v ≡ true
  pub known : (g : ℕ) (v : Value) → value_at c g ≡ Some v → IsKnown shapes functions v

-- ---- where it stands

abbrev pub number_in : Cell → Option ℕ
number_in (Byte b) = Some b
number_in Unwritten = None
number_in (PartOf v k) = None

-- An object's bytes are the machine's at its base, those of a value that a granule holds among them, and a granule is
-- tagged exactly where it holds a value
pub record Stands (a : Addresses) (shapes : List Shape) (s : Shape) (c : Content) (memory : List Area) : Type 0 where
  pub bytes : (i : ℕ) → i < s.owned → byte_at memory (s.base + i) ≡ number_in (object.byte_at (Placed a) shapes c i)
  pub tags : (i : ℕ) → i < s.owned → tag_at memory (s.base + i) ≡ Some (is_some (value_at c (i / 16)))

-- Memory is as it was but for an extent: no other byte changed, and no tag of a granule that has no byte of it
pub record SameOutside (base long : ℕ) (old new : List Area) : Type 0 where
  pub bytes : (x : ℕ) → (base ≤ x → base + long ≤ x) → byte_at new x ≡ byte_at old x
  pub tags : (x : ℕ) → ((y : ℕ) → y / 16 ≡ x / 16 → base ≤ y → base + long ≤ y) → tag_at new x ≡ tag_at old x
  pub places : (x : ℕ) → is_inside new x ≡ is_inside old x

-- Memory changed in one active object alone
pub record ChangedInside (shapes : List Shape) (old new : List Area) : Type 0 where
  pub object : ℕ
  pub shape : Shape
  pub there : slice_get shapes object ≡ Some shape
  pub active : shape.life ≡ Active
  pub same : SameOutside shape.base shape.owned old new

-- Each active object stands in the machine's memory. Of one that is not active, as a local before its block is entered
-- or behind its function's return, nothing is said but that it has its place
pub record ObjectsFit (functions : ℕ) (a : Addresses) (m : Memory) (memory : List Area) : Type 0 where
  pub areas : IsMemory memory
  -- extents are apart from one another, but for those of returned functions, and from the text
  pub spread : IsSpread m.shapes functions a
  pub aligned : (k : ℕ) (s : Shape) → slice_get m.shapes k ≡ Some s → s.base % 16 ≡ 0
  pub one_each : length m.contents ≡ length m.shapes
  pub sound : (k : ℕ) (s : Shape) (c : Content) → slice_get m.shapes k ≡ Some s → slice_get m.contents k ≡ Some c
      → IsSound m.shapes functions s c
  pub stands : (k : ℕ) (s : Shape) (c : Content) → slice_get m.shapes k ≡ Some s → slice_get m.contents k ≡ Some c
      → s.life ≡ Active
      → Stands a m.shapes s c memory
