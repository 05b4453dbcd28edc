-- A unit of a struct copy, in separate objects at addresses.
use Rattle.std.specs.Prelude.{◌≡◌, ℕ, ◌⊎◌, Result, Ok, Err}
use Rattle.cap_machine.specs.declared.machine.Machine.{Machine}
use Rattle.obj_mem.specs.declared.ending.Fault.{Fault}
use Rattle.obj_mem.specs.declared.ending.UnitFault.{UnitFault}
use Rattle.obj_mem.specs.declared.ending.UnitFault.TheVariants as U
use Rattle.obj_mem.specs.Values.{Value, Addresses}
use Rattle.obj_mem.specs.Objects.{Memory, Placed}
use Rattle.obj_mem.specs.Access.{as_store, load, store, copy_unit}
use Rattle.place_inject.specs.Values.{IsKnown}
use Rattle.place_inject.specs.Objects.{ObjectsFit}

-- what was loaded is stored
abbrev pub then_stored : Addresses → Memory → (to : Value) → ℕ → Result Value Fault → Result Memory UnitFault
then_stored a objects to n (Ok v) = as_store (store (Placed a) objects to n v)
then_stored a objects to n (Err e) = Err (U.Load e)

abbrev pub IsUnit : ℕ → Type 0
IsUnit n = (n ≡ 1) ⊎ ((n ≡ 2) ⊎ ((n ≡ 4) ⊎ ((n ≡ 8) ⊎ (n ≡ 16))))

-- A unit of a copy is a load and then a store, as the machine does it
abbrev pub CopiesFit : Type 0
CopiesFit = (functions : ℕ) (a : Addresses) (objects : Memory) (m : Machine) → ObjectsFit functions a objects m.mem
    → (n : ℕ) → IsUnit n → (from to : Value) → IsKnown objects.shapes functions from
    → copy_unit (Placed a) objects from to n ≡ then_stored a objects to n (load (Placed a) objects from n)
