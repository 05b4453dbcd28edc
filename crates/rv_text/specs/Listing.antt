-- The text of an instruction in a listing: its name and its operands, as an assembler writes them (RISC-V unprivileged
-- ISA, "RISC-V Assembly Programmer's Handbook"; CHERI ISAv9, "CHERI-RISC-V instruction encodings").
use Rattle.std.specs.Prelude.{ℕ, ℤ, List, ◌++◌, codes, decimal}
use Rattle.std.specs.Fmt.{signed_decimal}
use Rattle.rv_instr.specs.declared.instr.Instr.{Instr}
use Rattle.rv_instr.specs.declared.instr.Instr.TheVariants.{Upper, Cjal, Cjalr, Branch, Load, Store, Clc, Imm, Shift}
use Rattle.rv_instr.specs.declared.instr.Instr.TheVariants.{Op, Ecall, Ebreak, CapImm, CapReg, CapGet}
use Rattle.rv_instr.specs.declared.ops.UpperOp.{UpperOp}
use Rattle.rv_instr.specs.declared.ops.UpperOp.TheVariants.{Lui, Auipcc}
use Rattle.rv_instr.specs.declared.ops.BranchOp.{BranchOp}
use Rattle.rv_instr.specs.declared.ops.BranchOp.TheVariants.{Beq, Bne, Blt, Bge, Bltu, Bgeu}
use Rattle.rv_instr.specs.declared.ops.LoadOp.{LoadOp}
use Rattle.rv_instr.specs.declared.ops.LoadOp.TheVariants.{Lb, Lh, Lw, Ld, Lbu, Lhu, Lwu}
use Rattle.rv_instr.specs.declared.ops.StoreOp.{StoreOp}
use Rattle.rv_instr.specs.declared.ops.StoreOp.TheVariants.{Sb, Sh, Sw, Sd, Csc}
use Rattle.rv_instr.specs.declared.ops.ImmOp.{ImmOp}
use Rattle.rv_instr.specs.declared.ops.ImmOp.TheVariants.{Addi, Slti, Sltiu, Xori, Ori, Andi, Addiw}
use Rattle.rv_instr.specs.declared.ops.ShiftOp.{ShiftOp}
use Rattle.rv_instr.specs.declared.ops.ShiftOp.TheVariants.{Slli, Srli, Srai, Slliw, Srliw, Sraiw}
use Rattle.rv_instr.specs.declared.ops.RegOp.{RegOp}
use Rattle.rv_instr.specs.declared.ops.RegOp.TheVariants.{Add, Sll, Slt, Sltu, Xor, Srl, Or, And, Sub, Sra, Mul, Div}
use Rattle.rv_instr.specs.declared.ops.RegOp.TheVariants.{Divu, Rem, Remu, Addw, Sllw, Srlw, Subw, Sraw, Mulw, Divw}
use Rattle.rv_instr.specs.declared.ops.RegOp.TheVariants.{Divuw, Remw, Remuw}
use Rattle.rv_instr.specs.declared.ops.CapImmOp.{CapImmOp}
use Rattle.rv_instr.specs.declared.ops.CapImmOp.TheVariants.{Cincoffsetimm, Csetboundsimm}
use Rattle.rv_instr.specs.declared.ops.CapRegOp.{CapRegOp}
use Rattle.rv_instr.specs.declared.ops.CapRegOp.TheVariants.{Csetbounds, Csetboundsexact, Candperm, Csetaddr}
use Rattle.rv_instr.specs.declared.ops.CapRegOp.TheVariants.{Cincoffset, Csetequalexact}
use Rattle.rv_instr.specs.declared.ops.CapGetOp.{CapGetOp}
use Rattle.rv_instr.specs.declared.ops.CapGetOp.TheVariants.{Cgetperm, Cgetbase, Cgetlen, Cgettag, Cgetoffset, Crrl}
use Rattle.rv_instr.specs.declared.ops.CapGetOp.TheVariants.{Cram, Cmove, Ccleartag, Cgetaddr, Csealentry}

-- ---- names

abbrev pub upper_name : UpperOp → List ℕ
upper_name Lui = codes "lui"
upper_name Auipcc = codes "auipcc"

abbrev pub branch_name : BranchOp → List ℕ
branch_name Beq = codes "beq"
branch_name Bne = codes "bne"
branch_name Blt = codes "blt"
branch_name Bge = codes "bge"
branch_name Bltu = codes "bltu"
branch_name Bgeu = codes "bgeu"

abbrev pub load_name : LoadOp → List ℕ
load_name Lb = codes "lb"
load_name Lh = codes "lh"
load_name Lw = codes "lw"
load_name Ld = codes "ld"
load_name Lbu = codes "lbu"
load_name Lhu = codes "lhu"
load_name Lwu = codes "lwu"

abbrev pub store_name : StoreOp → List ℕ
store_name Sb = codes "sb"
store_name Sh = codes "sh"
store_name Sw = codes "sw"
store_name Sd = codes "sd"
store_name Csc = codes "csc"

abbrev pub imm_name : ImmOp → List ℕ
imm_name Addi = codes "addi"
imm_name Slti = codes "slti"
imm_name Sltiu = codes "sltiu"
imm_name Xori = codes "xori"
imm_name Ori = codes "ori"
imm_name Andi = codes "andi"
imm_name Addiw = codes "addiw"

abbrev pub shift_name : ShiftOp → List ℕ
shift_name Slli = codes "slli"
shift_name Srli = codes "srli"
shift_name Srai = codes "srai"
shift_name Slliw = codes "slliw"
shift_name Srliw = codes "srliw"
shift_name Sraiw = codes "sraiw"

abbrev pub reg_name : RegOp → List ℕ
reg_name Add = codes "add"
reg_name Sll = codes "sll"
reg_name Slt = codes "slt"
reg_name Sltu = codes "sltu"
reg_name Xor = codes "xor"
reg_name Srl = codes "srl"
reg_name Or = codes "or"
reg_name And = codes "and"
reg_name Sub = codes "sub"
reg_name Sra = codes "sra"
reg_name Mul = codes "mul"
reg_name Div = codes "div"
reg_name Divu = codes "divu"
reg_name Rem = codes "rem"
reg_name Remu = codes "remu"
reg_name Addw = codes "addw"
reg_name Sllw = codes "sllw"
reg_name Srlw = codes "srlw"
reg_name Subw = codes "subw"
reg_name Sraw = codes "sraw"
reg_name Mulw = codes "mulw"
reg_name Divw = codes "divw"
reg_name Divuw = codes "divuw"
reg_name Remw = codes "remw"
reg_name Remuw = codes "remuw"

abbrev pub cap_imm_name : CapImmOp → List ℕ
cap_imm_name Cincoffsetimm = codes "cincoffsetimm"
cap_imm_name Csetboundsimm = codes "csetboundsimm"

abbrev pub cap_reg_name : CapRegOp → List ℕ
cap_reg_name Csetbounds = codes "csetbounds"
cap_reg_name Csetboundsexact = codes "csetboundsexact"
cap_reg_name Candperm = codes "candperm"
cap_reg_name Csetaddr = codes "csetaddr"
cap_reg_name Cincoffset = codes "cincoffset"
cap_reg_name Csetequalexact = codes "csetequalexact"

abbrev pub cap_get_name : CapGetOp → List ℕ
cap_get_name Cgetperm = codes "cgetperm"
cap_get_name Cgetbase = codes "cgetbase"
cap_get_name Cgetlen = codes "cgetlen"
cap_get_name Cgettag = codes "cgettag"
cap_get_name Cgetoffset = codes "cgetoffset"
cap_get_name Crrl = codes "crrl"
cap_get_name Cram = codes "cram"
cap_get_name Cmove = codes "cmove"
cap_get_name Ccleartag = codes "ccleartag"
cap_get_name Cgetaddr = codes "cgetaddr"
cap_get_name Csealentry = codes "csealentry"

-- ---- registers

-- a register is named with `c` where its capability is read or written, and with `x` where its integer is
abbrev pub capability : ℕ → List ℕ
capability register = codes "c" ++ decimal register

abbrev pub integer : ℕ → List ℕ
integer register = codes "x" ++ decimal register

-- what `lui` writes is an integer, and what `auipcc` writes a capability
abbrev pub upper_rd : UpperOp → ℕ → List ℕ
upper_rd Lui = integer
upper_rd Auipcc = capability

-- the register that is stored
abbrev pub stored : StoreOp → ℕ → List ℕ
stored Sb = integer
stored Sh = integer
stored Sw = integer
stored Sd = integer
stored Csc = capability

-- rd and rs2 of the instructions on a capability and a register
abbrev pub cap_reg_rd : CapRegOp → ℕ → List ℕ
cap_reg_rd Csetbounds = capability
cap_reg_rd Csetboundsexact = capability
cap_reg_rd Candperm = capability
cap_reg_rd Csetaddr = capability
cap_reg_rd Cincoffset = capability
cap_reg_rd Csetequalexact = integer

abbrev pub cap_reg_rs2 : CapRegOp → ℕ → List ℕ
cap_reg_rs2 Csetbounds = integer
cap_reg_rs2 Csetboundsexact = integer
cap_reg_rs2 Candperm = integer
cap_reg_rs2 Csetaddr = integer
cap_reg_rs2 Cincoffset = integer
cap_reg_rs2 Csetequalexact = capability

-- rd and rs1 of the instructions on one register
abbrev pub cap_get_rd : CapGetOp → ℕ → List ℕ
cap_get_rd Cgetperm = integer
cap_get_rd Cgetbase = integer
cap_get_rd Cgetlen = integer
cap_get_rd Cgettag = integer
cap_get_rd Cgetoffset = integer
cap_get_rd Crrl = integer
cap_get_rd Cram = integer
cap_get_rd Cmove = capability
cap_get_rd Ccleartag = capability
cap_get_rd Cgetaddr = integer
cap_get_rd Csealentry = capability

abbrev pub cap_get_rs1 : CapGetOp → ℕ → List ℕ
cap_get_rs1 Cgetperm = capability
cap_get_rs1 Cgetbase = capability
cap_get_rs1 Cgetlen = capability
cap_get_rs1 Cgettag = capability
cap_get_rs1 Cgetoffset = capability
cap_get_rs1 Crrl = integer
cap_get_rs1 Cram = integer
cap_get_rs1 Cmove = capability
cap_get_rs1 Ccleartag = capability
cap_get_rs1 Cgetaddr = capability
cap_get_rs1 Csealentry = capability

-- ---- the text

-- a name and its operands
abbrev pub with_two : List ℕ → List ℕ → List ℕ → List ℕ
with_two name a b = name ++ codes " " ++ a ++ codes "," ++ b

abbrev pub with_three : List ℕ → List ℕ → List ℕ → List ℕ → List ℕ
with_three name a b c = name ++ codes " " ++ a ++ codes "," ++ b ++ codes "," ++ c

-- the place at an offset from a capability's address
abbrev pub at : ℤ → ℕ → List ℕ
at offset authority = signed_decimal offset ++ codes "(" ++ capability authority ++ codes ")"

-- The text of an instruction. Immediates are signed decimal; the field of `lui` and `auipcc` and the counts of shifts
-- are decimal.
abbrev pub text : Instr → List ℕ
text (Upper op rd field) = with_two (upper_name op) (upper_rd op rd) (decimal field)
text (Cjal rd offset) = with_two (codes "cjal") (capability rd) (signed_decimal offset)
text (Cjalr rd rs1 offset) = with_two (codes "cjalr") (capability rd) (at offset rs1)
text (Branch op rs1 rs2 offset) = with_three (branch_name op) (integer rs1) (integer rs2) (signed_decimal offset)
text (Load op rd rs1 offset) = with_two (load_name op) (integer rd) (at offset rs1)
text (Store op rs2 rs1 offset) = with_two (store_name op) (stored op rs2) (at offset rs1)
text (Clc rd rs1 offset) = with_two (codes "clc") (capability rd) (at offset rs1)
text (Imm op rd rs1 number) = with_three (imm_name op) (integer rd) (integer rs1) (signed_decimal number)
text (Shift op rd rs1 count) = with_three (shift_name op) (integer rd) (integer rs1) (decimal count)
text (Op op rd rs1 rs2) = with_three (reg_name op) (integer rd) (integer rs1) (integer rs2)
text Ecall = codes "ecall"
text Ebreak = codes "ebreak"
text (CapImm op rd rs1 number) = with_three (cap_imm_name op) (capability rd) (capability rs1) (signed_decimal number)
text (CapReg op rd rs1 rs2) = with_three (cap_reg_name op) (cap_reg_rd op rd) (capability rs1) (cap_reg_rs2 op rs2)
text (CapGet op rd rs1) = with_two (cap_get_name op) (cap_get_rd op rd) (cap_get_rs1 op rs1)
