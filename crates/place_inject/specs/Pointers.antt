-- What the machine makes of the capability that a value is, where the meaning makes a value of it.
use Rattle.std.specs.Prelude.{◌≡◌, ℕ, ◌%◌, ◌^◌, ◌<◌, true, false, List, Result, Ok, Err}
use Rattle.cap_ops.specs.declared.capability.Cap.{Cap}
use Rattle.cap_ops.specs.Capability.{moved, added, narrowed, narrowed_exactly, masked, cleared}
use Rattle.obj_mem.specs.declared.ending.Fault.{Fault}
use Rattle.obj_mem.specs.Values.{Value, Addresses, capability_of}
use Rattle.obj_mem.specs.Objects.{Shape, Placed, base_in}
use Rattle.obj_mem.specs.Pointers.{move, narrow, mask, clear, set_address}
use Rattle.obj_mem.specs.Standing.{IsSpread}
use Rattle.place_inject.specs.Values.{IsKnown}
use Rattle.place_inject.specs.Steps.{is_integer}

-- the capability is the value's, which is one of the run; the operations of a placed run don't fault
abbrev pub IsCapabilityOf : (functions : ℕ) → Addresses → List Shape → Cap → Result Value Fault → Type 0
IsCapabilityOf functions a shapes c (Ok v) =
    (is_integer v ≡ false) × IsKnown shapes functions v × (c ≡ capability_of a (base_in shapes) v)
IsCapabilityOf functions a shapes c (Err e) = ⊥

-- Moves keep the tag exactly where the bounds stay, and narrowing exactly where the least bounds of the request lie
-- inside
pub record PointersFit (functions : ℕ) (a : Addresses) (shapes : List Shape) (v : Value) : Type 0 where
  pub moves : (by : ℕ) → IsCapabilityOf functions a shapes (added (capability_of a (base_in shapes) v) by)
      (move (Placed a) shapes v by)
  pub sets : (to : ℕ) → to < 2 ^ 64
      → IsCapabilityOf functions a shapes (moved (capability_of a (base_in shapes) v) to)
      (set_address (Placed a) shapes v to)
  pub narrows : (length : ℕ)
      → IsCapabilityOf functions a shapes (narrowed (capability_of a (base_in shapes) v) length)
      (narrow (Placed a) shapes v length false)
  pub narrows_exactly : (length : ℕ)
      → IsCapabilityOf functions a shapes (narrowed_exactly (capability_of a (base_in shapes) v) length)
      (narrow (Placed a) shapes v length true)
  pub masks : (bits : ℕ)
      → IsCapabilityOf functions a shapes (masked (capability_of a (base_in shapes) v) (bits % 2 ^ 12))
      (mask (Placed a) shapes v bits)
  pub clears : IsCapabilityOf functions a shapes (cleared (capability_of a (base_in shapes) v))
      (clear (Placed a) shapes v)

abbrev pub PointersFitWhereSpread : Type 0
PointersFitWhereSpread = (functions : ℕ) (a : Addresses) (shapes : List Shape) → IsSpread shapes functions a
    → (v : Value) → is_integer v ≡ false → IsKnown shapes functions v → PointersFit functions a shapes v
