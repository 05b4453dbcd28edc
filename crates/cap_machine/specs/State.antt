-- The state of the machine: 32 registers and the program counter, each a capability, and the memory.
use Rattle.std.specs.Prelude.{ℕ, nat_eq, slice_set, slice_index_or, if◌then◌else◌}
use Rattle.cap_ops.specs.declared.capability.Cap.{Cap}
use Rattle.cap_ops.specs.Capability.{null_at, added}
use Rattle.cap_machine.specs.declared.machine.Machine.{Machine}

-- a register; register 0 is null
abbrev pub register : Machine → ℕ → Cap
register m r = if nat_eq r 0 then null_at 0 else slice_index_or m.regs r (null_at 0)

-- a register's integer
abbrev pub integer : Machine → ℕ → ℕ
integer m r = (register m r).fields.address

-- with a register written; a write to register 0 is dropped
abbrev pub with_register : Machine → ℕ → Cap → Machine
with_register m r c = if nat_eq r 0 then m else record m { regs = slice_set m.regs r c }

-- with the counter at the next instruction
abbrev pub next : Machine → Machine
next m = record m { pc = added m.pc 4 }

-- the address of the instruction
abbrev pub counter : Machine → ℕ
counter m = m.pc.fields.address
