-- What numbers the machine finds in capabilities, and what it finds in comparing two of them.
use Rattle.std.specs.Prelude.{◌≡◌, ℕ, ◌+◌, ◌-◌, ◌%◌, ◌^◌, ◌==◌, Bool, false, List, Ok}
use Rattle.cap_concentrate.specs.Rounding.{Encodable}
use Rattle.cap_ops.specs.declared.capability.Cap.{Cap}
use Rattle.cap_ops.specs.Capability.{base}
use Rattle.cap_machine.specs.Rows.{length_of, same}
use Rattle.tag_mem.specs.Areas.{Area}
use Rattle.obj_mem.specs.Values.{Value, Addresses, capability_of}
use Rattle.obj_mem.specs.Objects.{Shape, Memory, Placed, base_in}
use Rattle.obj_mem.specs.Pointers.{get_address, get_tag, get_permissions, get_base, get_length, get_offset}
use Rattle.obj_mem.specs.Comparisons.{less_word, less_by, equal, less, distance, identical}
use Rattle.place_inject.specs.Values.{IsKnown}
use Rattle.place_inject.specs.Objects.{ObjectsFit}
use Rattle.place_inject.specs.Steps.{is_integer}

-- of the capability that a value is: what the meaning gets of the value
pub record GettersFit (a : Addresses) (shapes : List Shape) (v : Value) (c : Cap) : Type 0 where
  pub addresses : get_address (Placed a) shapes v ≡ Ok c.fields.address
  pub tags : get_tag v ≡ c.tag
  pub permissions : get_permissions v ≡ c.fields.perms
  pub bases : get_base (Placed a) shapes v ≡ Ok (base c)
  pub lengths : get_length (Placed a) shapes v ≡ Ok (length_of c)
  pub offsets : get_offset (Placed a) shapes v ≡ Ok ((c.fields.address + (2 ^ 64 - base c)) % 2 ^ 64)

-- Of two: order and difference are those of their addresses, and exact equality is that of their tags and of all bits
pub record ComparisonsFit (a : Addresses) (shapes : List Shape) (v w : Value) (c d : Cap) : Type 0 where
  pub equalities : equal (Placed a) shapes v w ≡ Ok (c.fields.address == d.fields.address)
  pub orders : (signed : Bool) → less (Placed a) shapes signed v w
      ≡ Ok (less_word signed c.fields.address d.fields.address)
  pub distances : distance (Placed a) shapes v w ≡ Ok (less_by c.fields.address d.fields.address)
  pub identities : identical (Placed a) shapes v w ≡ Ok (same c d)

-- a value of a run that may stand in a capability
abbrev pub IsPointer : List Shape → (functions : ℕ) → Value → Type 0
IsPointer shapes functions v = (is_integer v ≡ false) × IsKnown shapes functions v

-- Where objects stand, and the text has bounds of its own
pub record GettingFits (functions : ℕ) (a : Addresses) (shapes : List Shape) : Type 0 where
  pub getters : (v : Value) → IsPointer shapes functions v
      → GettersFit a shapes v (capability_of a (base_in shapes) v)
  pub comparisons : (v w : Value) → IsPointer shapes functions v → IsPointer shapes functions w
      → ComparisonsFit a shapes v w (capability_of a (base_in shapes) v) (capability_of a (base_in shapes) w)

abbrev pub GettingFitsWhereObjectsDo : Type 0
GettingFitsWhereObjectsDo = (functions : ℕ) (a : Addresses) (m : Memory) (memory : List Area)
    → ObjectsFit functions a m memory → Encodable a.text a.text_end
    → GettingFits functions a m.shapes
