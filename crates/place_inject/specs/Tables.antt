-- The table's entries are read back.
use Rattle.std.specs.Prelude.{◌≡◌, ℕ, ◌+◌, ◌*◌, ◌<◌, ◌≤◌, true, ◌++◌, ℤ, Option, Some, slice_get}
use Rattle.cap_ops.specs.declared.capability.Cap.{Cap}
use Rattle.cap_ops.specs.declared.capability.TheConstants.{UNSEALED}
use Rattle.cap_ops.specs.Bounded.{bounded}
use Rattle.cap_ops.specs.Permissions.{data_permissions}
use Rattle.tag_mem.specs.Areas.{IsMemory}
use Rattle.cap_machine.specs.declared.machine.Machine.{Machine}
use Rattle.cap_machine.specs.State.{register}
use Rattle.cap_machine.specs.Rows.{plus, set, clc_row}
use Rattle.obj_mem.specs.Legal.{ObjectNeed, IsLegal, owned_of}
use Rattle.obj_mem.specs.Objects.{base_in, whole_pointer}
use Rattle.obj_mem.specs.Pointers.{keeps}
use Rattle.obj_mem.specs.Table.{addresses_of, object_base, function_entry}
use Rattle.obj_mem.specs.Values.{Live, Fun, capability_of}
use Rattle.cheri_c_sem.specs.Modes.{Store}
use Rattle.cheri_c_sem.specs.Steps.{State}
use Rattle.place_inject.specs.Parts.{kept_at}
use Rattle.place_inject.specs.Frames.{Setting, Point, functions_of}
use Rattle.place_inject.specs.Fits.{Fits}

abbrev pub table_top : Setting → ℕ
table_top s = s.map.table.0 + s.map.table.1

-- the table's capability at an address
abbrev pub table_pointer : Setting → ℕ → Cap
table_pointer s at = bounded s.map.table.0 (table_top s) data_permissions UNSEALED at

-- The machine was loaded with its table, which c3 has: an entry for each global and then for each literal, by the
-- object's
-- number, and behind them one for each function
pub record TableIsThere (s : Setting) : Type 0 where
  pub areas : IsMemory s.loaded.mem
  pub table : register s.loaded 3 ≡ table_pointer s s.map.table.0
  pub objects : (k : ℕ) (need : ObjectNeed) → slice_get (s.needs.globals ++ s.needs.literals) k ≡ Some need
      → kept_at s.loaded.mem (s.map.table.0 + 16 * k)
      ≡ Some (capability_of (addresses_of s.map) (object_base s.map) (Live k 0 (owned_of need) 0 need.permissions))
  pub functions : (f : ℕ) → f < functions_of s
      → kept_at s.loaded.mem (s.map.table.0 + 16 * function_entry s.needs f)
      ≡ Some (capability_of (addresses_of s.map) (object_base s.map) (Fun f))

-- The table's bounds are kept by its addresses, and by those up to 4096 bytes past its end
abbrev pub TableReaches : Type 0
TableReaches = (s : Setting) → IsLegal s.needs s.map → (y : ℕ) → s.map.table.0 ≤ y → y < table_top s + 4096
    → keeps s.map.table.0 (table_top s) y ≡ true

-- What `clc` at an address gives: of an object's entry the pointer to the whole object, and of a function's its sentry
pub record EntriesAreRead (s : Setting) (t : State Store) (n : Machine) (to from : ℕ) (z : ℤ) (at : ℕ) : Type 0 where
  pub objects : (k : ℕ) (need : ObjectNeed) → slice_get (s.needs.globals ++ s.needs.literals) k ≡ Some need
      → at ≡ s.map.table.0 + 16 * k
      → clc_row n to from z ≡ set n to (capability_of (addresses_of s.map) (base_in t.mem.memory.shapes)
      (whole_pointer t.mem.memory.shapes k need.permissions))
  pub functions : (f : ℕ) → f < functions_of s → at ≡ s.map.table.0 + 16 * function_entry s.needs f
      → clc_row n to from z ≡ set n to (capability_of (addresses_of s.map) (base_in t.mem.memory.shapes) (Fun f))

-- `clc` of an entry, through the table's capability at any address that keeps the table's bounds, whatever the
-- registers are
abbrev pub TableReadsBack : Type 0
TableReadsBack = (s : Setting) → IsLegal s.needs s.map → TableIsThere s → (p : Option Point) (t : State Store)
    (m : Machine)
    → Fits s p t m → (n : Machine) → n.mem ≡ m.mem
    → (to from y : ℕ) (z : ℤ) → register n from ≡ table_pointer s y → keeps s.map.table.0 (table_top s) y ≡ true
    → EntriesAreRead s t n to from z (plus y z)
