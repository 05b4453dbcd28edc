-- What the machine does where the meaning loads or stores, where the objects stand in its memory.
use Rattle.std.specs.Prelude.{◌≡◌, ℕ, ◌^◌, ◌<◌, pos, Bool, true, false, List, Result, Ok, Err}
use Rattle.rv_instr.specs.declared.ops.LoadOp.{LoadOp}
use Rattle.rv_instr.specs.declared.ops.StoreOp.{StoreOp}
use Rattle.rv_instr.specs.declared.ops.StoreOp.TheVariants.{Sb, Sh, Sw, Sd, Csc}
use Rattle.tag_mem.specs.Areas.{Area}
use Rattle.cap_machine.specs.declared.machine.Machine.{Machine}
use Rattle.cap_machine.specs.declared.end.Step.{Step}
use Rattle.cap_machine.specs.declared.end.Step.TheVariants.{Next}
use Rattle.cap_machine.specs.Integers.{loaded_kind, loaded_bytes, stored_bytes}
use Rattle.cap_machine.specs.State.{register, next}
use Rattle.cap_machine.specs.Rows.{trap, set, set_integer, load_row, store_row, clc_row}
use Rattle.ck_int.specs.Kinds.{wrapped}
use Rattle.obj_mem.specs.declared.ending.Fault.{Fault}
use Rattle.obj_mem.specs.declared.ending.Fault.TheVariants as F
use Rattle.obj_mem.specs.Values.{Value, Int, Live, Fun, Raw, Addresses, capability_of}
use Rattle.obj_mem.specs.Objects.{Shape, Memory, Placed, base_in}
use Rattle.obj_mem.specs.Access.{load, store}
use Rattle.place_inject.specs.Values.{IsKnown}
use Rattle.place_inject.specs.Objects.{ChangedInside, ObjectsFit}

-- ---- stores

abbrev pub is_integer : Value → Bool
is_integer (Int n) = true
is_integer (Live object low high offset permissions) = false
is_integer (Fun f) = false
is_integer (Raw address upper) = false

-- `csc` stores a capability, and every other store an integer
abbrev pub stores_integer : StoreOp → Bool
stores_integer Sb = true
stores_integer Sh = true
stores_integer Sw = true
stores_integer Sd = true
stores_integer Csc = false

-- The step goes on, with a memory in which the objects stand as they are behind the store
pub record Stored (functions : ℕ) (a : Addresses) (before after : Memory) (m : Machine)
    (step : Step × Machine) : Type 0 where
  pub memory : List Area
  pub goes : step ≡ (Next, next (record m { mem = memory }))
  pub fit : ObjectsFit functions a after memory
  pub shapes : after.shapes ≡ before.shapes
  pub inside : ChangedInside before.shapes m.mem memory

-- By what the meaning gives. Where it traps, the machine does by the same cause, and is left as it was
abbrev pub StoreAnswers : (functions : ℕ) → Addresses → Memory → Machine → Result Memory Fault → Step × Machine → Type 0
StoreAnswers functions a before m (Ok after) step = Stored functions a before after m step
StoreAnswers functions a before m (Err (F.Cause c)) step = step ≡ trap m c
StoreAnswers functions a before m (Err F.Outside) step = Unit {0}
StoreAnswers functions a before m (Err (F.Unspecified r)) step = ⊥

-- A store through a value, of one, and the store instruction over the registers that have them
abbrev pub StoresFit : Type 0
StoresFit = (functions : ℕ) (a : Addresses) (objects : Memory) (m : Machine) → ObjectsFit functions a objects m.mem
    → (op : StoreOp) (from to : ℕ) (p v : Value) → stores_integer op ≡ is_integer v
    → IsKnown objects.shapes functions p → IsKnown objects.shapes functions v
    → register m to ≡ capability_of a (base_in objects.shapes) p
    → register m from ≡ capability_of a (base_in objects.shapes) v
    → StoreAnswers functions a objects m (store (Placed a) objects p (stored_bytes op) v)
    (store_row m op from to (pos 0))

-- ---- loads

-- an integer comes into a register, extended as the instruction says
abbrev pub LoadAnswers : Machine → LoadOp → ℕ → Result Value Fault → Step × Machine → Type 0
LoadAnswers m op to (Ok v) step = (n : ℕ) × (v ≡ Int n) × (n < 256 ^ loaded_bytes op) × (step ≡ set_integer m to
    (wrapped (loaded_kind op) (pos n)))
LoadAnswers m op to (Err (F.Cause c)) step = step ≡ trap m c
LoadAnswers m op to (Err F.Outside) step = Unit {0}
LoadAnswers m op to (Err (F.Unspecified r)) step = ⊥

-- a value with its tag
abbrev pub CapabilityLoadAnswers : (functions : ℕ) → Addresses → List Shape → Machine → ℕ → Result Value Fault
    → Step × Machine → Type 0
CapabilityLoadAnswers functions a shapes m to (Ok v) step =
    (is_integer v ≡ false) × IsKnown shapes functions v × (step ≡ set m to (capability_of a (base_in shapes) v))
CapabilityLoadAnswers functions a shapes m to (Err (F.Cause c)) step = step ≡ trap m c
CapabilityLoadAnswers functions a shapes m to (Err F.Outside) step = Unit {0}
CapabilityLoadAnswers functions a shapes m to (Err (F.Unspecified r)) step = ⊥

-- A load through a value, and the load instruction over the register that has it
pub record LoadsFit (functions : ℕ) (a : Addresses) (objects : Memory) (m : Machine) : Type 0 where
  pub integers : (op : LoadOp) (to from : ℕ) (p : Value) → IsKnown objects.shapes functions p
      → register m from ≡ capability_of a (base_in objects.shapes) p
      → LoadAnswers m op to (load (Placed a) objects p (loaded_bytes op)) (load_row m op to from (pos 0))
  pub capabilities : (to from : ℕ) (p : Value) → IsKnown objects.shapes functions p
      → register m from ≡ capability_of a (base_in objects.shapes) p
      → CapabilityLoadAnswers functions a objects.shapes m to (load (Placed a) objects p 16) (clc_row m to from (pos 0))

abbrev pub LoadsFitWhereObjectsDo : Type 0
LoadsFitWhereObjectsDo = (functions : ℕ) (a : Addresses) (objects : Memory) (m : Machine)
    → ObjectsFit functions a objects m.mem
    → LoadsFit functions a objects m
