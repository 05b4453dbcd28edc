-- The check of a call through a value.
use Rattle.std.specs.Prelude.{◌≡◌, ℕ, ◌+◌, ◌%◌, ◌<◌, ◌≤◌, pos, Result, Ok, Err}
use Rattle.cap_concentrate.specs.Rounding.{Encodable}
use Rattle.cap_ops.specs.declared.capability.Cap.{Cap}
use Rattle.cap_ops.specs.declared.capability.TheConstants.{UNSEALED}
use Rattle.cap_ops.specs.Bounded.{bounded}
use Rattle.cap_ops.specs.Permissions.{code_permissions}
use Rattle.cap_machine.specs.declared.machine.Machine.{Machine}
use Rattle.cap_machine.specs.declared.end.Step.{Step}
use Rattle.cap_machine.specs.State.{register}
use Rattle.cap_machine.specs.Rows.{trap, jump, cjalr_row}
use Rattle.obj_mem.specs.declared.ending.Fault.{Fault}
use Rattle.obj_mem.specs.declared.ending.Fault.TheVariants as F
use Rattle.obj_mem.specs.Values.{Value, Addresses, capability_of}
use Rattle.obj_mem.specs.Objects.{Memory, base_in}
use Rattle.obj_mem.specs.Comparisons.{callee}
use Rattle.place_inject.specs.Values.{IsKnown}
use Rattle.place_inject.specs.Objects.{ObjectsFit}

-- the text has bounds of its own, in which each function begins with a whole instruction
pub record EntriesLie (functions : ℕ) (a : Addresses) : Type 0 where
  pub exact : Encodable a.text a.text_end
  pub within : (f : ℕ) → f < functions → a.entry f + 4 ≤ a.text_end
  pub aligned : (f : ℕ) → f < functions → a.entry f % 4 ≡ 0

-- the text's capability at an address, which the counter has in a function
abbrev pub code_at : Addresses → ℕ → Cap
code_at a at = bounded a.text a.text_end code_permissions UNSEALED at

-- The counter goes to the function that the value is, or the machine traps by the cause and is left as it was
abbrev pub CallAnswers : Machine → (link : ℕ) → Addresses → Result ℕ Fault → Step × Machine → Type 0
CallAnswers m link a (Ok f) step = step ≡ jump m link (code_at a (a.entry f))
CallAnswers m link a (Err (F.Cause c)) step = step ≡ trap m c
CallAnswers m link a (Err F.Outside) step = ⊥
CallAnswers m link a (Err (F.Unspecified r)) step = ⊥

-- A call through a value, and the jump to the register that has it
abbrev pub CalleesFit : Type 0
CalleesFit = (functions : ℕ) (a : Addresses) (objects : Memory) (m : Machine) → ObjectsFit functions a objects m.mem
    → EntriesLie functions a
    → (link to : ℕ) (v : Value) → IsKnown objects.shapes functions v
    → register m to ≡ capability_of a (base_in objects.shapes) v
    → CallAnswers m link a (callee v) (cjalr_row m link to (pos 0))
