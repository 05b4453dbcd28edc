-- Acts of the machine in code that stands in its text.
use Rattle.std.specs.Prelude.{◌≡◌, ℕ, zero, suc, ◌+◌, ◌*◌, ◌%◌, ◌^◌, ◌≤◌, List, length, Some, slice_get}
use Rattle.ck_base.specs.Runs.{Goes}
use Rattle.cap_concentrate.specs.Rounding.{Encodable}
use Rattle.cap_ops.specs.declared.capability.Cap.{Cap}
use Rattle.cap_ops.specs.declared.capability.TheConstants.{UNSEALED}
use Rattle.cap_ops.specs.Bounded.{bounded}
use Rattle.cap_ops.specs.Permissions.{code_permissions}
use Rattle.rv_instr.specs.declared.instr.Instr.{Instr}
use Rattle.rv_instr.specs.Range.{InRange}
use Rattle.rv_code.specs.Formats.{word_of}
use Rattle.rv_code.specs.Encoding.{fields_of}
use Rattle.tag_mem.specs.Areas.{Area}
use Rattle.tag_mem.specs.Memory.{number_at}
use Rattle.cap_machine.specs.declared.machine.Machine.{Machine}
use Rattle.cap_machine.specs.State.{register}
use Rattle.cap_machine.specs.Step.{act}

-- ---- code in its text

-- instructions, and the text's bounds, where the first stands at the lower one
pub record Ground : Type 0 where
  pub code : List Instr
  pub text : ℕ
  pub text_end : ℕ

pub record Laid (g : Ground) : Type 0 where
  pub exact : Encodable g.text g.text_end
  pub aligned : g.text % 16 ≡ 0
  pub below : g.text_end ≤ 2 ^ 40
  pub room : g.text + 4 * length g.code ≤ g.text_end
  pub in_range : (k : ℕ) (i : Instr) → slice_get g.code k ≡ Some i → InRange i

-- a word's address, and the counter there
abbrev pub place : Ground → ℕ → ℕ
place g at = g.text + 4 * at

abbrev pub counter_at : Ground → ℕ → Cap
counter_at g at = bounded g.text g.text_end code_permissions UNSEALED (place g at)

-- the code's words are in memory
abbrev pub HasText : Ground → List Area → Type 0
HasText g m = (k : ℕ) (i : Instr) → slice_get g.code k ≡ Some i
    → number_at m (place g k) 4 ≡ Some (word_of (fields_of i))

-- ---- acts

-- so many acts lead from one machine to another, of which none speaks with the outside
abbrev pub Leads : ℕ → Machine → Machine → Type 0
Leads zero m n = m ≡ n
Leads (suc j) m n = (next : Machine) × (act m ≡ Goes next) × Leads j next n

-- So many acts lead to a word, where a register has a capability. No register but `changed` is another than it was, and
-- memory is as it was
pub record Holds (g : Ground) (m : Machine) (count at changed r : ℕ) (c : Cap) : Type 0 where
  pub to : Machine
  pub leads : Leads count m to
  pub counter : to.pc ≡ counter_at g at
  pub registers : length to.regs ≡ 32
  pub holds : register to r ≡ c
  pub others : (q : ℕ) → (q ≡ changed → ⊥) → register to q ≡ register m q
  pub memory : to.mem ≡ m.mem

-- The machine stands at a word of its code, in its text
pub record IsThere (g : Ground) (m : Machine) (at : ℕ) : Type 0 where
  pub counter : m.pc ≡ counter_at g at
  pub registers : length m.regs ≡ 32
  pub text : HasText g m.mem
