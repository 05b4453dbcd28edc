-- The fixed fields of each row of the instruction table (RISC-V unprivileged ISA, "RV32/64G Instruction Set Listings";
-- CHERI ISAv9, CHERI-RISC-V instruction encodings).
use Rattle.std.specs.Prelude.{ℕ}
use Rattle.rv_instr.specs.declared.ops.UpperOp.{UpperOp}
use Rattle.rv_instr.specs.declared.ops.UpperOp.TheVariants.{Lui, Auipcc}
use Rattle.rv_instr.specs.declared.ops.BranchOp.{BranchOp}
use Rattle.rv_instr.specs.declared.ops.BranchOp.TheVariants.{Beq, Bne, Blt, Bge, Bltu, Bgeu}
use Rattle.rv_instr.specs.declared.ops.LoadOp.{LoadOp}
use Rattle.rv_instr.specs.declared.ops.LoadOp.TheVariants.{Lb, Lh, Lw, Ld, Lbu, Lhu, Lwu}
use Rattle.rv_instr.specs.declared.ops.StoreOp.{StoreOp}
use Rattle.rv_instr.specs.declared.ops.StoreOp.TheVariants.{Sb, Sh, Sw, Sd, Csc}
use Rattle.rv_instr.specs.declared.ops.ImmOp.{ImmOp}
use Rattle.rv_instr.specs.declared.ops.ImmOp.TheVariants.{Addi, Slti, Sltiu, Xori, Ori, Andi, Addiw}
use Rattle.rv_instr.specs.declared.ops.ShiftOp.{ShiftOp}
use Rattle.rv_instr.specs.declared.ops.ShiftOp.TheVariants.{Slli, Srli, Srai, Slliw, Srliw, Sraiw}
use Rattle.rv_instr.specs.declared.ops.RegOp.{RegOp}
use Rattle.rv_instr.specs.declared.ops.RegOp.TheVariants.{Add, Sll, Slt, Sltu, Xor, Srl, Or, And, Sub, Sra, Mul, Div}
use Rattle.rv_instr.specs.declared.ops.RegOp.TheVariants.{Divu, Rem, Remu, Addw, Sllw, Srlw, Subw, Sraw, Mulw, Divw}
use Rattle.rv_instr.specs.declared.ops.RegOp.TheVariants.{Divuw, Remw, Remuw}
use Rattle.rv_instr.specs.declared.ops.CapImmOp.{CapImmOp}
use Rattle.rv_instr.specs.declared.ops.CapImmOp.TheVariants.{Cincoffsetimm, Csetboundsimm}
use Rattle.rv_instr.specs.declared.ops.CapRegOp.{CapRegOp}
use Rattle.rv_instr.specs.declared.ops.CapRegOp.TheVariants.{Csetbounds, Csetboundsexact, Candperm, Csetaddr}
use Rattle.rv_instr.specs.declared.ops.CapRegOp.TheVariants.{Cincoffset, Csetequalexact}
use Rattle.rv_instr.specs.declared.ops.CapGetOp.{CapGetOp}
use Rattle.rv_instr.specs.declared.ops.CapGetOp.TheVariants.{Cgetperm, Cgetbase, Cgetlen, Cgettag, Cgetoffset, Crrl}
use Rattle.rv_instr.specs.declared.ops.CapGetOp.TheVariants.{Cram, Cmove, Ccleartag, Cgetaddr, Csealentry}

-- format U: the opcode
abbrev pub upper_opcode : UpperOp → ℕ
upper_opcode Lui = 0x37
upper_opcode Auipcc = 0x17

-- the branches, of format B with opcode 0x63: funct3
abbrev pub branch_funct3 : BranchOp → ℕ
branch_funct3 Beq = 0
branch_funct3 Bne = 1
branch_funct3 Blt = 4
branch_funct3 Bge = 5
branch_funct3 Bltu = 6
branch_funct3 Bgeu = 7

-- the loads of integers, of format I with opcode 0x03: funct3
abbrev pub load_funct3 : LoadOp → ℕ
load_funct3 Lb = 0
load_funct3 Lh = 1
load_funct3 Lw = 2
load_funct3 Ld = 3
load_funct3 Lbu = 4
load_funct3 Lhu = 5
load_funct3 Lwu = 6

-- the stores, of format S with opcode 0x23: funct3
abbrev pub store_funct3 : StoreOp → ℕ
store_funct3 Sb = 0
store_funct3 Sh = 1
store_funct3 Sw = 2
store_funct3 Sd = 3
store_funct3 Csc = 4

-- an integer and an immediate, of format I: the opcode and funct3
abbrev pub imm_row : ImmOp → ℕ × ℕ
imm_row Addi = (0x13, 0)
imm_row Slti = (0x13, 2)
imm_row Sltiu = (0x13, 3)
imm_row Xori = (0x13, 4)
imm_row Ori = (0x13, 6)
imm_row Andi = (0x13, 7)
imm_row Addiw = (0x1b, 0)

abbrev pub imm_opcode : ImmOp → ℕ
imm_opcode op = (imm_row op).0

abbrev pub imm_funct3 : ImmOp → ℕ
imm_funct3 op = (imm_row op).1

-- the shifts by a count, of format I: the opcode, the bits of the immediate above the count, and funct3
abbrev pub shift_row : ShiftOp → ℕ × ℕ × ℕ
shift_row Slli = (0x13, 0x00, 1)
shift_row Srli = (0x13, 0x00, 5)
shift_row Srai = (0x13, 0x10, 5)
shift_row Slliw = (0x1b, 0x00, 1)
shift_row Srliw = (0x1b, 0x00, 5)
shift_row Sraiw = (0x1b, 0x20, 5)

abbrev pub shift_opcode : ShiftOp → ℕ
shift_opcode op = (shift_row op).0

abbrev pub shift_high : ShiftOp → ℕ
shift_high op = (shift_row op).1

abbrev pub shift_funct3 : ShiftOp → ℕ
shift_funct3 op = (shift_row op).2

-- two integers, of format R: the opcode, funct7 and funct3
abbrev pub reg_row : RegOp → ℕ × ℕ × ℕ
reg_row Add = (0x33, 0x00, 0)
reg_row Sll = (0x33, 0x00, 1)
reg_row Slt = (0x33, 0x00, 2)
reg_row Sltu = (0x33, 0x00, 3)
reg_row Xor = (0x33, 0x00, 4)
reg_row Srl = (0x33, 0x00, 5)
reg_row Or = (0x33, 0x00, 6)
reg_row And = (0x33, 0x00, 7)
reg_row Sub = (0x33, 0x20, 0)
reg_row Sra = (0x33, 0x20, 5)
reg_row Mul = (0x33, 0x01, 0)
reg_row Div = (0x33, 0x01, 4)
reg_row Divu = (0x33, 0x01, 5)
reg_row Rem = (0x33, 0x01, 6)
reg_row Remu = (0x33, 0x01, 7)
reg_row Addw = (0x3b, 0x00, 0)
reg_row Sllw = (0x3b, 0x00, 1)
reg_row Srlw = (0x3b, 0x00, 5)
reg_row Subw = (0x3b, 0x20, 0)
reg_row Sraw = (0x3b, 0x20, 5)
reg_row Mulw = (0x3b, 0x01, 0)
reg_row Divw = (0x3b, 0x01, 4)
reg_row Divuw = (0x3b, 0x01, 5)
reg_row Remw = (0x3b, 0x01, 6)
reg_row Remuw = (0x3b, 0x01, 7)

abbrev pub reg_opcode : RegOp → ℕ
reg_opcode op = (reg_row op).0

abbrev pub reg_funct7 : RegOp → ℕ
reg_funct7 op = (reg_row op).1

abbrev pub reg_funct3 : RegOp → ℕ
reg_funct3 op = (reg_row op).2

-- a capability and an immediate, of format I with opcode 0x5b: funct3
abbrev pub cap_imm_funct3 : CapImmOp → ℕ
cap_imm_funct3 Cincoffsetimm = 1
cap_imm_funct3 Csetboundsimm = 2

-- a capability and a register, of format R with opcode 0x5b and funct3 0: funct7
abbrev pub cap_reg_funct7 : CapRegOp → ℕ
cap_reg_funct7 Csetbounds = 0x08
cap_reg_funct7 Csetboundsexact = 0x09
cap_reg_funct7 Candperm = 0x0d
cap_reg_funct7 Csetaddr = 0x10
cap_reg_funct7 Cincoffset = 0x11
cap_reg_funct7 Csetequalexact = 0x21

-- one register, of format R with opcode 0x5b, funct3 0 and funct7 0x7f: what stands in the field rs2
abbrev pub cap_get_rs2 : CapGetOp → ℕ
cap_get_rs2 Cgetperm = 0
cap_get_rs2 Cgetbase = 2
cap_get_rs2 Cgetlen = 3
cap_get_rs2 Cgettag = 4
cap_get_rs2 Cgetoffset = 6
cap_get_rs2 Crrl = 8
cap_get_rs2 Cram = 9
cap_get_rs2 Cmove = 10
cap_get_rs2 Ccleartag = 11
cap_get_rs2 Cgetaddr = 15
cap_get_rs2 Csealentry = 17
