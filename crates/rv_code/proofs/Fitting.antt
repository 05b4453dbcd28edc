-- The fields of an instruction in range stand in a word.
use Rattle.std.proofs.Common.{ℕ, ◌+◌, ◌*◌, ◌<◌, ◌^◌, arith, lit<}
use Rattle.std.specs.Prelude.{ℤ, pos}
use Rattle.rv_instr.specs.declared.instr.Instr.{Instr}
use Rattle.rv_instr.specs.declared.instr.Instr.TheVariants.{Upper, Cjal, Cjalr, Branch, Load, Store, Clc, Imm, Shift}
use Rattle.rv_instr.specs.declared.instr.Instr.TheVariants.{Op, Ecall, Ebreak, CapImm, CapReg, CapGet}
use Rattle.rv_instr.specs.declared.ops.UpperOp.{UpperOp}
use Rattle.rv_instr.specs.declared.ops.UpperOp.TheVariants.{Lui}
use Rattle.rv_instr.specs.declared.ops.BranchOp.{BranchOp}
use Rattle.rv_instr.specs.declared.ops.BranchOp.TheVariants.{Beq}
use Rattle.rv_instr.specs.declared.ops.LoadOp.{LoadOp}
use Rattle.rv_instr.specs.declared.ops.LoadOp.TheVariants.{Lb}
use Rattle.rv_instr.specs.declared.ops.StoreOp.{StoreOp}
use Rattle.rv_instr.specs.declared.ops.StoreOp.TheVariants.{Sb}
use Rattle.rv_instr.specs.declared.ops.ImmOp.{ImmOp}
use Rattle.rv_instr.specs.declared.ops.ImmOp.TheVariants.{Addi}
use Rattle.rv_instr.specs.declared.ops.ShiftOp.{ShiftOp}
use Rattle.rv_instr.specs.declared.ops.ShiftOp.TheVariants.{Slli}
use Rattle.rv_instr.specs.declared.ops.RegOp.{RegOp}
use Rattle.rv_instr.specs.declared.ops.RegOp.TheVariants.{Add}
use Rattle.rv_instr.specs.declared.ops.CapImmOp.{CapImmOp}
use Rattle.rv_instr.specs.declared.ops.CapImmOp.TheVariants.{Cincoffsetimm}
use Rattle.rv_instr.specs.declared.ops.CapRegOp.{CapRegOp}
use Rattle.rv_instr.specs.declared.ops.CapRegOp.TheVariants.{Csetbounds}
use Rattle.rv_instr.specs.declared.ops.CapGetOp.{CapGetOp}
use Rattle.rv_instr.specs.declared.ops.CapGetOp.TheVariants.{Cgetperm}
use Rattle.rv_instr.specs.Range.{InRange, count_bits}
use Rattle.rv_code.specs.Formats.{FitsWord, r_format, i_format, s_format, b_format, u_format, j_format}
use Rattle.rv_code.specs.Table.{upper_opcode, branch_funct3, load_funct3, store_funct3, imm_opcode, imm_funct3}
use Rattle.rv_code.specs.Table.{shift_opcode, shift_high, shift_funct3, reg_opcode, reg_funct7, reg_funct3}
use Rattle.rv_code.specs.Table.{cap_imm_funct3, cap_reg_funct7, cap_get_rs2}
use Rattle.rv_code.specs.Encoding.{fields_of}

-- ---- the fixed fields

upper : (op : UpperOp) → upper_opcode op < 2 ^ 7
upper Lui = lit< tt
upper _ = lit< tt

branch : (op : BranchOp) → branch_funct3 op < 2 ^ 3
branch Beq = lit< tt
branch _ = lit< tt

load : (op : LoadOp) → load_funct3 op < 2 ^ 3
load Lb = lit< tt
load _ = lit< tt

store : (op : StoreOp) → store_funct3 op < 2 ^ 3
store Sb = lit< tt
store _ = lit< tt

imm : (op : ImmOp) → (imm_opcode op < 2 ^ 7) × (imm_funct3 op < 2 ^ 3)
imm Addi = (lit< tt, lit< tt)
imm _ = (lit< tt, lit< tt)

shift : (op : ShiftOp) → (shift_opcode op < 2 ^ 7) × (shift_funct3 op < 2 ^ 3)
shift Slli = (lit< tt, lit< tt)
shift _ = (lit< tt, lit< tt)

reg : (op : RegOp) → (reg_opcode op < 2 ^ 7) × (reg_funct7 op < 2 ^ 7) × (reg_funct3 op < 2 ^ 3)
reg Add = (lit< tt, lit< tt, lit< tt)
reg _ = (lit< tt, lit< tt, lit< tt)

cap_imm : (op : CapImmOp) → cap_imm_funct3 op < 2 ^ 3
cap_imm Cincoffsetimm = lit< tt
cap_imm _ = lit< tt

cap_reg : (op : CapRegOp) → cap_reg_funct7 op < 2 ^ 7
cap_reg Csetbounds = lit< tt
cap_reg _ = lit< tt

cap_get : (op : CapGetOp) → cap_get_rs2 op < 2 ^ 5
cap_get Cgetperm = lit< tt
cap_get _ = lit< tt

-- ---- the formats

r-fits : (funct7 rs2 rs1 funct3 rd opcode : ℕ) → funct7 < 2 ^ 7 → rs2 < 2 ^ 5 → rs1 < 2 ^ 5 → funct3 < 2 ^ 3 →
    rd < 2 ^ 5 → opcode < 2 ^ 7
    → FitsWord (r_format funct7 rs2 rs1 funct3 rd opcode)
r-fits funct7 rs2 rs1 funct3 rd opcode a b c d e f =
    record { opcode = f; rd = e; funct3 = d; rs1 = c; rs2 = b; funct7 = a }

i-fits : (imm : ℤ) (rs1 funct3 rd opcode : ℕ) → rs1 < 2 ^ 5 → funct3 < 2 ^ 3 → rd < 2 ^ 5 → opcode < 2 ^ 7 →
    FitsWord (i_format imm rs1 funct3 rd opcode)
i-fits imm rs1 funct3 rd opcode c d e f =
    record { opcode = f; rd = e; funct3 = d; rs1 = c; rs2 = omega arith; funct7 = omega arith }

s-fits : (imm : ℤ) (rs2 rs1 funct3 opcode : ℕ) → rs2 < 2 ^ 5 → rs1 < 2 ^ 5 → funct3 < 2 ^ 3 → opcode < 2 ^ 7 →
    FitsWord (s_format imm rs2 rs1 funct3 opcode)
s-fits imm rs2 rs1 funct3 opcode b c d f =
    record { opcode = f; rd = omega arith; funct3 = d; rs1 = c; rs2 = b; funct7 = omega arith }

b-fits : (imm : ℤ) (rs2 rs1 funct3 opcode : ℕ) → rs2 < 2 ^ 5 → rs1 < 2 ^ 5 → funct3 < 2 ^ 3 → opcode < 2 ^ 7 →
    FitsWord (b_format imm rs2 rs1 funct3 opcode)
b-fits imm rs2 rs1 funct3 opcode b c d f =
    record { opcode = f; rd = omega arith; funct3 = d; rs1 = c; rs2 = b; funct7 = omega arith }

u-fits : (field rd opcode : ℕ) → rd < 2 ^ 5 → opcode < 2 ^ 7 → FitsWord (u_format field rd opcode)
u-fits field rd opcode e f =
    record { opcode = f; rd = e; funct3 = omega arith; rs1 = omega arith; rs2 = omega arith; funct7 = omega arith }

j-fits : (imm : ℤ) (rd opcode : ℕ) → rd < 2 ^ 5 → opcode < 2 ^ 7 → FitsWord (j_format imm rd opcode)
j-fits imm rd opcode e f =
    record { opcode = f; rd = e; funct3 = omega arith; rs1 = omega arith; rs2 = omega arith; funct7 = omega arith }

pub FitsWord-fields_of : (i : Instr) → InRange i → FitsWord (fields_of i)
unfolding fields_of InRange
FitsWord-fields_of (Upper op rd field) h = u-fits field rd _ h.0 (upper op)
FitsWord-fields_of (Cjal rd offset) h = j-fits offset rd _ h.0 (lit< tt)
FitsWord-fields_of (Cjalr rd rs1 offset) h = i-fits offset rs1 _ rd _ h.1 (lit< tt) h.0 (lit< tt)
FitsWord-fields_of (Branch op rs1 rs2 offset) h = b-fits offset rs2 rs1 _ _ h.1 h.0 (branch op) (lit< tt)
FitsWord-fields_of (Load op rd rs1 offset) h = i-fits offset rs1 _ rd _ h.1 (load op) h.0 (lit< tt)
FitsWord-fields_of (Store op rs2 rs1 offset) h = s-fits offset rs2 rs1 _ _ h.0 h.1 (store op) (lit< tt)
FitsWord-fields_of (Clc rd rs1 offset) h = i-fits offset rs1 _ rd _ h.1 (lit< tt) h.0 (lit< tt)
FitsWord-fields_of (Imm op rd rs1 number) h = i-fits number rs1 _ rd _ h.1 (imm op).1 h.0 (imm op).0
FitsWord-fields_of (Shift op rd rs1 count) h =
    i-fits (pos (shift_high op * 2 ^ count_bits op + count)) rs1 _ rd _ h.1 (shift op).1 h.0 (shift op).0
FitsWord-fields_of (Op op rd rs1 rs2) h = r-fits _ rs2 rs1 _ rd _ (reg op).1 h.2 h.1 (reg op).2 h.0 (reg op).0
FitsWord-fields_of Ecall h = r-fits _ _ _ _ _ _ (lit< tt) (lit< tt) (lit< tt) (lit< tt) (lit< tt) (lit< tt)
FitsWord-fields_of Ebreak h = r-fits _ _ _ _ _ _ (lit< tt) (lit< tt) (lit< tt) (lit< tt) (lit< tt) (lit< tt)
FitsWord-fields_of (CapImm op rd rs1 number) h = i-fits number rs1 _ rd _ h.1 (cap_imm op) h.0 (lit< tt)
FitsWord-fields_of (CapReg op rd rs1 rs2) h = r-fits _ rs2 rs1 _ rd _ (cap_reg op) h.2 h.1 (lit< tt) h.0 (lit< tt)
FitsWord-fields_of (CapGet op rd rs1) h = r-fits _ _ rs1 _ rd _ (lit< tt) (cap_get op) h.1 (lit< tt) h.0 (lit< tt)
