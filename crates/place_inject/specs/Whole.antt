-- The pointer to a whole object, as the machine makes it.
use Rattle.std.specs.Prelude.{◌≡◌, ℕ, ◌+◌, ◌^◌, ◌<◌, ◌≤◌, true, List, Some, slice_get}
use Rattle.cap_concentrate.specs.Rounding.{Encodable}
use Rattle.cap_ops.specs.declared.capability.TheConstants.{UNSEALED, EXECUTE}
use Rattle.cap_ops.specs.Bounded.{bounded}
use Rattle.cap_ops.specs.Capability.{moved, narrowed_exactly, lacks}
use Rattle.obj_mem.specs.Values.{Addresses, capability_of}
use Rattle.obj_mem.specs.Objects.{Shape, base_in, whole_pointer}
use Rattle.obj_mem.specs.Pointers.{keeps}
use Rattle.obj_mem.specs.Standing.{IsSpread}
use Rattle.place_inject.specs.Values.{IsKnown}

-- A capability with exact bounds, as of the stack or the heap, that holds the object: moved to the object's base and
-- narrowed exactly to its owned length it is the pointer to the whole object, wherever it pointed that keeps its
-- bounds. So the bounds that are set for an object are exact
pub record WholeFits (functions : ℕ) (a : Addresses) (shapes : List Shape) (object : ℕ) (s : Shape)
    (perms : ℕ) : Type 0 where
  pub known : IsKnown shapes functions (whole_pointer shapes object perms)
  pub made : (low high from : ℕ) → Encodable low high → low < 2 ^ 64 → keeps low high from ≡ true → low ≤ s.base
      → s.base + s.owned ≤ high
      → narrowed_exactly (moved (bounded low high perms UNSEALED from) s.base) s.owned
      ≡ capability_of a (base_in shapes) (whole_pointer shapes object perms)

abbrev pub WholePointersFit : Type 0
WholePointersFit = (functions : ℕ) (a : Addresses) (shapes : List Shape) → IsSpread shapes functions a
    → (object : ℕ) (s : Shape) → slice_get shapes object ≡ Some s → (perms : ℕ) → perms < 4096
    → lacks perms EXECUTE ≡ true
    → WholeFits functions a shapes object s perms
