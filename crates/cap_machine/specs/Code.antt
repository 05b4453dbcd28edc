-- The instructions that a run decoded and keeps.
use Rattle.std.specs.Prelude.{◌≡◌, ℕ, ◌+◌, ◌*◌, ◌/◌, ◌%◌, ◌<◌, ◌≤◌, ◌==◌, ◌⊎◌, true, List, Option, Some, None, Ok}
use Rattle.std.specs.Prelude.{slice_index_or, if◌then◌else◌}
use Rattle.cap_ops.specs.declared.capability.Cap.{Cap}
use Rattle.cap_ops.specs.Capability.{with_address}
use Rattle.rv_instr.specs.declared.instr.Instr.{Instr}
use Rattle.rv_instr.specs.declared.instr.Instr.TheVariants.{Ebreak}
use Rattle.tag_mem.specs.Areas.{IsMemory}
use Rattle.cap_machine.specs.declared.code.Code.{Code}
use Rattle.cap_machine.specs.declared.code.Decoded.{Decoded}
use Rattle.cap_machine.specs.declared.machine.Machine.{Machine}
use Rattle.cap_machine.specs.Step.{fetched}

abbrev pub slot_of : ℕ → ℕ
slot_of at = at / 4 % 1024

-- a slot with no instruction, where this address has another one
abbrev pub vacant : ℕ → Decoded
vacant at = record { at = at; instruction = Ebreak }

-- what is kept for an address
unfoldable pub found_in : List Decoded → ℕ → Option Instr
found_in slots at =
    let slot = slice_index_or slots (slot_of at) (vacant 0) in
    if slot.at == at then Some slot.instruction else None

abbrev pub found : Code → ℕ → Option Instr
found code at = found_in code.slots at

-- the machine with its counter, tagged, at another address
abbrev pub counter_at : Machine → ℕ → Machine
counter_at m at = record m { pc = record { tag = true; fields = with_address m.pc.fields at } }

-- the machine fetches this instruction at this address, whose granule and last byte lie between these bounds
pub record IsCurrent (low last : ℕ) (m : Machine) (at : ℕ) (i : Instr) : Type 0 where
  pub from : low ≤ at / 16 * 16
  pub to : at + 3 ≤ last
  pub memory : IsMemory m.mem
  pub fetched : fetched (counter_at m at) ≡ Ok i

-- so it is with each that is kept
abbrev pub Current : Code → Machine → Type 0
Current code m = (at : ℕ) (i : Instr) → found code at ≡ Some i → IsCurrent code.low code.last m at i

-- ---- what is forgotten

abbrev pub IsEmpty : Code → Type 0
IsEmpty code = (at : ℕ) → found code at ≡ None

-- all is forgotten, or this holds and nothing is
abbrev pub KeepsIf : Type 0 → Code → Code → Type 0
KeepsIf holds old new = ((new ≡ old) × holds) ⊎ IsEmpty new

-- a store at this address writes none of them
abbrev pub Spares : Code → ℕ → Type 0
Spares code at = (at < code.low) ⊎ (code.last < at)

-- two capabilities differ at most in tag and address
abbrev pub IsAlike : Cap → Cap → Type 0
IsAlike c d = (at : ℕ) → with_address c.fields at ≡ with_address d.fields at
