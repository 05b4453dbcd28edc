-- Objects that come and go, and the machine's memory.
use Rattle.std.specs.Prelude.{◌≡◌, ℕ, ◌+◌, ◌*◌, ◌/◌, ◌<◌, false, List, Some, slice_get}
use Rattle.tag_mem.specs.Areas.{Area, IsMemory, byte_at, tag_at}
use Rattle.obj_mem.specs.Values.{Addresses}
use Rattle.obj_mem.specs.Objects.{Shape, Memory, Placed, zero_object, rest, end}
use Rattle.obj_mem.specs.Agreement.{IsNotReturned}
use Rattle.place_inject.specs.Objects.{SameOutside, ObjectsFit}

-- so many granules from an address on are zero and without tags, and all else is as it was
pub record Zeroed (at granules : ℕ) (old new : List Area) : Type 0 where
  pub areas : IsMemory new
  pub bytes : (i : ℕ) → i < 16 * granules → byte_at new (at + i) ≡ Some 0
  pub tags : (i : ℕ) → i < 16 * granules → tag_at new (at + i) ≡ Some false
  pub same : SameOutside at (16 * granules) old new

-- the granules that an object's bytes touch
abbrev pub granules_of : Shape → ℕ
granules_of s = (s.owned + 15) / 16

-- A local's block is entered: the machine makes its granules zero, which no other object has a byte of
pub record ObjectsComeAndGo (functions : ℕ) (a : Addresses) (m : Memory) (memory : List Area) : Type 0 where
  pub zeroes : (k : ℕ) (s : Shape) → slice_get m.shapes k ≡ Some s → IsNotReturned s.life
      → (new : List Area) → Zeroed s.base (granules_of s) memory new
      → ObjectsFit functions a (zero_object (Placed a) m k) new
  -- its function returns, or it rests before its block is entered: the machine does nothing
  pub ends : (k : ℕ) → ObjectsFit functions a (end m k) memory
  pub rests : (k : ℕ) (s : Shape) → slice_get m.shapes k ≡ Some s → IsNotReturned s.life
      → ObjectsFit functions a (rest m k) memory

abbrev pub ComeAndGoWhereObjectsFit : Type 0
ComeAndGoWhereObjectsFit = (functions : ℕ) (a : Addresses) (m : Memory) (memory : List Area)
    → ObjectsFit functions a m memory
    → ObjectsComeAndGo functions a m memory
