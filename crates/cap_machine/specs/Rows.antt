-- One row per instruction: how the step ends, and the state after it. A state that ends is left as it was.
use Rattle.std.specs.Prelude.{ℕ, ◌+◌, ◌-◌, ◌%◌, ◌^◌, ◌&&◌, ℤ, pos, ◌==◌, nat_lt, Bool, true, false, Option, Some, None}
use Rattle.std.specs.Prelude.{Result, Ok, Err, bit_xor, min, if◌then◌else◌}
use Rattle.cap_concentrate.specs.declared.fields.Fields.{Fields}
use Rattle.cap_concentrate.specs.declared.packing.TheConstants.{NULL_BITS}
use Rattle.cap_concentrate.specs.Packing.{bits_of, fields_of}
use Rattle.cap_concentrate.specs.Rounding.{owned, alignment}
use Rattle.cap_ops.specs.declared.capability.Cap.{Cap}
use Rattle.cap_ops.specs.Capability.{base, top, with_otype, null_at, cleared, moved, added, narrowed, narrowed_exactly}
use Rattle.cap_ops.specs.Capability.{masked, permits, sealed}
use Rattle.cap_ops.specs.declared.capability.TheConstants.{UNSEALED, SENTRY, LOAD_CAPABILITY}
use Rattle.cap_ops.specs.Access.{checked}
use Rattle.cap_ops.specs.declared.access.Access.TheVariants as access
use Rattle.cap_ops.specs.declared.access.Cause.{Cause}
use Rattle.cap_ops.specs.declared.access.Cause.TheVariants as cause
use Rattle.ck_int.specs.Kinds.{wrapped}
use Rattle.rv_instr.specs.declared.instr.Instr.{Instr}
use Rattle.rv_instr.specs.declared.instr.Instr.TheVariants.{Upper, Cjal, Cjalr, Branch, Load, Store, Clc, Imm, Shift}
use Rattle.rv_instr.specs.declared.instr.Instr.TheVariants.{Op, Ecall, Ebreak, CapImm, CapReg, CapGet}
use Rattle.rv_instr.specs.declared.ops.UpperOp.{UpperOp}
use Rattle.rv_instr.specs.declared.ops.UpperOp.TheVariants.{Lui, Auipcc}
use Rattle.rv_instr.specs.declared.ops.BranchOp.{BranchOp}
use Rattle.rv_instr.specs.declared.ops.LoadOp.{LoadOp}
use Rattle.rv_instr.specs.declared.ops.StoreOp.{StoreOp}
use Rattle.rv_instr.specs.declared.ops.StoreOp.TheVariants.{Csc}
use Rattle.rv_instr.specs.declared.ops.ImmOp.{ImmOp}
use Rattle.rv_instr.specs.declared.ops.ShiftOp.{ShiftOp}
use Rattle.rv_instr.specs.declared.ops.RegOp.{RegOp}
use Rattle.rv_instr.specs.declared.ops.CapImmOp.{CapImmOp}
use Rattle.rv_instr.specs.declared.ops.CapImmOp.TheVariants.{Cincoffsetimm, Csetboundsimm}
use Rattle.rv_instr.specs.declared.ops.CapRegOp.{CapRegOp}
use Rattle.rv_instr.specs.declared.ops.CapRegOp.TheVariants.{Csetbounds, Csetboundsexact, Candperm, Csetaddr}
use Rattle.rv_instr.specs.declared.ops.CapRegOp.TheVariants.{Cincoffset, Csetequalexact}
use Rattle.rv_instr.specs.declared.ops.CapGetOp.{CapGetOp}
use Rattle.rv_instr.specs.declared.ops.CapGetOp.TheVariants.{Cgetperm, Cgetbase, Cgetlen, Cgettag, Cgetoffset, Crrl}
use Rattle.rv_instr.specs.declared.ops.CapGetOp.TheVariants.{Cram, Cmove, Ccleartag, Cgetaddr, Csealentry}
use Rattle.tag_mem.specs.Areas.{is_inside}
use Rattle.tag_mem.specs.Memory.{number_at, capability_at, written}
use Rattle.tag_mem.specs.Numbers.{little_bytes}
use Rattle.cap_machine.specs.declared.machine.Machine.{Machine}
use Rattle.cap_machine.specs.declared.end.End.TheVariants.{Trap, Break, Illegal}
use Rattle.cap_machine.specs.declared.end.Step.{Step}
use Rattle.cap_machine.specs.declared.end.Step.TheVariants.{Next, Ended}
use Rattle.cap_machine.specs.Integers.{result_of, immediate_op, shift_op, is_taken, extended, upper, one_where}
use Rattle.cap_machine.specs.Integers.{loaded_kind, loaded_bytes, stored_bytes}
use Rattle.cap_machine.specs.State.{register, integer, with_register, next, counter}

-- an address moved by an immediate, modulo 2^64
abbrev pub plus : ℕ → ℤ → ℕ
plus a z = (a + extended z) % 2 ^ 64

-- ---- how a step ends

abbrev pub trap : Machine → Cause → Step × Machine
trap m c = (Ended (Trap c (counter m)), m)

-- a register is written, and the next instruction follows
abbrev pub set : Machine → ℕ → Cap → Step × Machine
set m r c = (Next, next (with_register m r c))

-- an integer result is null with that address
abbrev pub set_integer : Machine → ℕ → ℕ → Step × Machine
set_integer m r n = set m r (null_at n)

-- a sentry of the next instruction
abbrev pub link : Machine → Cap
link m = sealed (added m.pc 4)

-- a jump, which writes the link
abbrev pub jump : Machine → ℕ → Cap → Step × Machine
jump m rd target = (Next, record (with_register m rd (link m)) { pc = target })

-- ---- integers, branches and jumps

unfoldable pub upper_row : Machine → UpperOp → ℕ → ℕ → Step × Machine
upper_row m Lui rd n = set_integer m rd (upper n)
upper_row m Auipcc rd n = set m rd (added m.pc (upper n))

unfoldable pub op_row : Machine → RegOp → ℕ → ℕ → ℕ → Step × Machine
op_row m op rd rs1 rs2 = set_integer m rd (result_of op (integer m rs1) (integer m rs2))

unfoldable pub imm_row : Machine → ImmOp → ℕ → ℕ → ℤ → Step × Machine
imm_row m op rd rs1 z = set_integer m rd (result_of (immediate_op op) (integer m rs1) (extended z))

unfoldable pub shift_row : Machine → ShiftOp → ℕ → ℕ → ℕ → Step × Machine
shift_row m op rd rs1 n = set_integer m rd (result_of (shift_op op) (integer m rs1) n)

unfoldable pub branch_row : Machine → BranchOp → ℕ → ℕ → ℤ → Step × Machine
branch_row m op rs1 rs2 z =
    (Next, record m { pc = added m.pc (if is_taken op (integer m rs1) (integer m rs2) then extended z else 4) })

unfoldable pub cjal_row : Machine → ℕ → ℤ → Step × Machine
cjal_row m rd z = jump m rd (added m.pc (extended z))

-- the capability without its seal
unfoldable pub unsealed : Cap → Cap
unsealed c = record c { fields = with_otype c.fields UNSEALED }

-- a sentry is unsealed by a jump to it with immediate 0
abbrev pub entered : Cap → ℤ → Cap
entered c z = if c.fields.otype == SENTRY && extended z == 0 then unsealed c else c

abbrev pub cjalr_checked : Machine → ℕ → Cap → Result ℕ Cause → Step × Machine
cjalr_checked m rd c (Err e) = trap m e
cjalr_checked m rd c (Ok at) = jump m rd (moved c at)

unfoldable pub cjalr_row : Machine → ℕ → ℕ → ℤ → Step × Machine
cjalr_row m rd rs1 z =
    let c = entered (register m rs1) z in
    cjalr_checked m rd c (checked c (plus c.fields.address z) access.Jump)

-- ---- memory. A place that passes the check and lies outside all regions is a trap by bounds

abbrev pub loaded : Machine → LoadOp → ℕ → Option ℕ → Step × Machine
loaded m op rd None = trap m cause.Bounds
loaded m op rd (Some v) = set_integer m rd (wrapped (loaded_kind op) (pos v))

abbrev pub load_checked : Machine → LoadOp → ℕ → Result ℕ Cause → Step × Machine
load_checked m op rd (Err e) = trap m e
load_checked m op rd (Ok at) = loaded m op rd (number_at m.mem at (loaded_bytes op))

unfoldable pub load_row : Machine → LoadOp → ℕ → ℕ → ℤ → Step × Machine
load_row m op rd rs1 z =
    let c = register m rs1 in
    load_checked m op rd (checked c (plus c.fields.address z) (access.Load (loaded_bytes op)))

-- bytes and the tag of their granule are written where the place lies in a region, and the next instruction follows
abbrev pub stored : Machine → ℕ → ℕ → ℕ → Bool → Bool → Step × Machine
stored m at n v tag true = (Next, next (record m { mem = written m.mem at (little_bytes n v) tag }))
stored m at n v tag false = trap m cause.Bounds

abbrev pub store_checked : Machine → ℕ → ℕ → Bool → Result ℕ Cause → Step × Machine
store_checked m n v tag (Err e) = trap m e
store_checked m n v tag (Ok at) = stored m at n v tag (is_inside m.mem at)

-- the 128 bits of a capability as they stand in memory, where null is all zeros
abbrev pub memory_bits : Fields → ℕ
memory_bits f = bit_xor (bits_of f) NULL_BITS

abbrev pub from_memory : ℕ → Fields
from_memory bits = fields_of (bit_xor bits NULL_BITS)

-- `csc` stores 128 bits and the tag, every other store the low bytes of an integer
unfoldable pub store_row : Machine → StoreOp → ℕ → ℕ → ℤ → Step × Machine
store_row m Csc rs2 rs1 z =
    let c = register m rs1 in
    let v = register m rs2 in
    store_checked m 16 (memory_bits v.fields) v.tag (checked c (plus c.fields.address z) (access.StoreCap v.tag))
store_row m op rs2 rs1 z =
    let c = register m rs1 in
    store_checked m (stored_bytes op) (integer m rs2) false
    (checked c (plus c.fields.address z) (access.Store (stored_bytes op)))

-- a capability is loaded with its tag where the authority has Load_Capability
abbrev pub cap_loaded : Machine → ℕ → Cap → Option (ℕ × Bool) → Step × Machine
cap_loaded m rd c None = trap m cause.Bounds
cap_loaded m rd c (Some v) =
    set m rd (record { tag = v.1 && permits c.fields.perms LOAD_CAPABILITY; fields = from_memory v.0 })

abbrev pub clc_checked : Machine → ℕ → Cap → Result ℕ Cause → Step × Machine
clc_checked m rd c (Err e) = trap m e
clc_checked m rd c (Ok at) = cap_loaded m rd c (capability_at m.mem at)

unfoldable pub clc_row : Machine → ℕ → ℕ → ℤ → Step × Machine
clc_row m rd rs1 z =
    let c = register m rs1 in
    clc_checked m rd c (checked c (plus c.fields.address z) access.LoadCap)

-- ---- capabilities

unfoldable pub cap_imm_row : Machine → CapImmOp → ℕ → ℕ → ℤ → Step × Machine
cap_imm_row m Cincoffsetimm rd rs1 z = set m rd (added (register m rs1) (extended z))
cap_imm_row m Csetboundsimm rd rs1 z = set m rd (narrowed (register m rs1) (extended z))

-- tag and all 128 bits
abbrev pub same : Cap → Cap → Bool
same c d = one_where c.tag == one_where d.tag && bits_of c.fields == bits_of d.fields

unfoldable pub cap_reg_row : Machine → CapRegOp → ℕ → ℕ → ℕ → Step × Machine
cap_reg_row m Csetbounds rd rs1 rs2 = set m rd (narrowed (register m rs1) (integer m rs2))
cap_reg_row m Csetboundsexact rd rs1 rs2 = set m rd (narrowed_exactly (register m rs1) (integer m rs2))
cap_reg_row m Candperm rd rs1 rs2 = set m rd (masked (register m rs1) (integer m rs2 % 2 ^ 12))
cap_reg_row m Csetaddr rd rs1 rs2 = set m rd (moved (register m rs1) (integer m rs2))
cap_reg_row m Cincoffset rd rs1 rs2 = set m rd (added (register m rs1) (integer m rs2))
cap_reg_row m Csetequalexact rd rs1 rs2 = set_integer m rd (one_where (same (register m rs1) (register m rs2)))

-- top less base, at most 2^64 - 1, and 2^64 - 1 where the top is below the base
abbrev pub length_of : Cap → ℕ
length_of c = if nat_lt (top c) (base c) then 2 ^ 64 - 1 else min (top c - base c) (2 ^ 64 - 1)

unfoldable pub cap_get_row : Machine → CapGetOp → ℕ → ℕ → Step × Machine
cap_get_row m Cgetperm rd rs1 = set_integer m rd (register m rs1).fields.perms
cap_get_row m Cgetbase rd rs1 = set_integer m rd (base (register m rs1))
cap_get_row m Cgetlen rd rs1 = set_integer m rd (length_of (register m rs1))
cap_get_row m Cgettag rd rs1 = set_integer m rd (one_where (register m rs1).tag)
cap_get_row m Cgetoffset rd rs1 = set_integer m rd ((integer m rs1 + (2 ^ 64 - base (register m rs1))) % 2 ^ 64)
cap_get_row m Crrl rd rs1 = set_integer m rd (owned (integer m rs1) % 2 ^ 64)
cap_get_row m Cram rd rs1 = set_integer m rd (2 ^ 64 - alignment (integer m rs1))
cap_get_row m Cmove rd rs1 = set m rd (register m rs1)
cap_get_row m Ccleartag rd rs1 = set m rd (cleared (register m rs1))
cap_get_row m Cgetaddr rd rs1 = set_integer m rd (integer m rs1)
cap_get_row m Csealentry rd rs1 = set m rd (sealed (register m rs1))

-- ---- all rows. An environment call speaks with the outside and has a row of its own in `Step`

unfoldable pub row : Machine → Instr → Step × Machine
row m (Upper op rd n) = upper_row m op rd n
row m (Cjal rd z) = cjal_row m rd z
row m (Cjalr rd rs1 z) = cjalr_row m rd rs1 z
row m (Branch op rs1 rs2 z) = branch_row m op rs1 rs2 z
row m (Load op rd rs1 z) = load_row m op rd rs1 z
row m (Store op rs2 rs1 z) = store_row m op rs2 rs1 z
row m (Clc rd rs1 z) = clc_row m rd rs1 z
row m (Imm op rd rs1 z) = imm_row m op rd rs1 z
row m (Shift op rd rs1 n) = shift_row m op rd rs1 n
row m (Op op rd rs1 rs2) = op_row m op rd rs1 rs2
row m (CapImm op rd rs1 z) = cap_imm_row m op rd rs1 z
row m (CapReg op rd rs1 rs2) = cap_reg_row m op rd rs1 rs2
row m (CapGet op rd rs1) = cap_get_row m op rd rs1
row m Ebreak = (Ended (Break (counter m)), m)
row m Ecall = (Ended (Illegal (counter m)), m)
