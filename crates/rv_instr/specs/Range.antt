-- What the fields of an instruction can hold: the widths of registers, immediates and counts in an instruction word
-- (RISC-V unprivileged ISA, RV32I "Base Instruction Formats" and "Immediate Encoding Variants", RV64I "Integer
-- Register-Immediate Instructions").
use Rattle.std.specs.Prelude.{◌≡◌, ℕ, ℤ, pos, ◌-◌, ◌^◌, ◌<◌, ◌≤ℤ◌, ◌<ℤ◌, neg_ℤ, int_rem, List, [], ◌∷◌}
use Rattle.rv_instr.specs.declared.instr.Instr.{Instr}
use Rattle.rv_instr.specs.declared.instr.Instr.TheVariants.{Upper, Cjal, Cjalr, Branch, Load, Store, Clc, Imm, Shift}
use Rattle.rv_instr.specs.declared.instr.Instr.TheVariants.{Op, Ecall, Ebreak, CapImm, CapReg, CapGet}
use Rattle.rv_instr.specs.declared.ops.ShiftOp.{ShiftOp}
use Rattle.rv_instr.specs.declared.ops.ShiftOp.TheVariants.{Slli, Srli, Srai, Slliw, Srliw, Sraiw}
use Rattle.rv_instr.specs.declared.ops.CapImmOp.{CapImmOp}
use Rattle.rv_instr.specs.declared.ops.CapImmOp.TheVariants.{Cincoffsetimm, Csetboundsimm}

-- one of the 32 registers
abbrev pub IsRegister : ℕ → Type 0
IsRegister n = n < 32

-- from -2^(bits - 1) to 2^(bits - 1) - 1: the numbers whose two's complement has so many bits
abbrev pub FitsBits : ℕ → ℤ → Type 0
FitsBits bits z = (neg_ℤ (pos (2 ^ (bits - 1))) ≤ℤ z) × (z <ℤ pos (2 ^ (bits - 1)))

abbrev pub IsEven : ℤ → Type 0
IsEven z = int_rem z (pos 2) ≡ pos 0

-- the bits of a shift's count: five where 32-bit words are shifted, else six
abbrev pub count_bits : ShiftOp → ℕ
count_bits Slli = 6
count_bits Srli = 6
count_bits Srai = 6
count_bits Slliw = 5
count_bits Srliw = 5
count_bits Sraiw = 5

-- An increment is signed, and a length isn't.
abbrev pub CapImmFits : CapImmOp → ℤ → Type 0
CapImmFits Cincoffsetimm z = FitsBits 12 z
CapImmFits Csetboundsimm z = (pos 0 ≤ℤ z) × (z <ℤ pos 4096)

-- Each field of the instruction is one that its format can hold.
unfoldable pub InRange : Instr → Type 0
InRange (Upper op rd field) = IsRegister rd × (field < 2 ^ 20)
InRange (Cjal rd offset) = IsRegister rd × FitsBits 21 offset × IsEven offset
InRange (Cjalr rd rs1 offset) = IsRegister rd × IsRegister rs1 × FitsBits 12 offset
InRange (Branch op rs1 rs2 offset) = IsRegister rs1 × IsRegister rs2 × FitsBits 13 offset × IsEven offset
InRange (Load op rd rs1 offset) = IsRegister rd × IsRegister rs1 × FitsBits 12 offset
InRange (Store op rs2 rs1 offset) = IsRegister rs2 × IsRegister rs1 × FitsBits 12 offset
InRange (Clc rd rs1 offset) = IsRegister rd × IsRegister rs1 × FitsBits 12 offset
InRange (Imm op rd rs1 number) = IsRegister rd × IsRegister rs1 × FitsBits 12 number
InRange (Shift op rd rs1 count) = IsRegister rd × IsRegister rs1 × (count < 2 ^ count_bits op)
InRange (Op op rd rs1 rs2) = IsRegister rd × IsRegister rs1 × IsRegister rs2
InRange Ecall = Unit {0}
InRange Ebreak = Unit {0}
InRange (CapImm op rd rs1 number) = IsRegister rd × IsRegister rs1 × CapImmFits op number
InRange (CapReg op rd rs1 rs2) = IsRegister rd × IsRegister rs1 × IsRegister rs2
InRange (CapGet op rd rs1) = IsRegister rd × IsRegister rs1

-- the registers that the instruction names
abbrev pub registers_of : Instr → List ℕ
registers_of (Upper op rd field) = rd ∷ []
registers_of (Cjal rd offset) = rd ∷ []
registers_of (Cjalr rd rs1 offset) = rd ∷ rs1 ∷ []
registers_of (Branch op rs1 rs2 offset) = rs1 ∷ rs2 ∷ []
registers_of (Load op rd rs1 offset) = rd ∷ rs1 ∷ []
registers_of (Store op rs2 rs1 offset) = rs2 ∷ rs1 ∷ []
registers_of (Clc rd rs1 offset) = rd ∷ rs1 ∷ []
registers_of (Imm op rd rs1 number) = rd ∷ rs1 ∷ []
registers_of (Shift op rd rs1 count) = rd ∷ rs1 ∷ []
registers_of (Op op rd rs1 rs2) = rd ∷ rs1 ∷ rs2 ∷ []
registers_of Ecall = []
registers_of Ebreak = []
registers_of (CapImm op rd rs1 number) = rd ∷ rs1 ∷ []
registers_of (CapReg op rd rs1 rs2) = rd ∷ rs1 ∷ rs2 ∷ []
registers_of (CapGet op rd rs1) = rd ∷ rs1 ∷ []
