-- Encoding: which word is which instruction, by one row for each kind of instruction.
use Rattle.std.specs.Prelude.{◌≡◌, ℕ, pos, ◌+◌, ◌*◌, ◌^◌}
use Rattle.rv_instr.specs.declared.instr.Instr.{Instr}
use Rattle.rv_instr.specs.declared.instr.Instr.TheVariants.{Upper, Cjal, Cjalr, Branch, Load, Store, Clc, Imm, Shift}
use Rattle.rv_instr.specs.declared.instr.Instr.TheVariants.{Op, Ecall, Ebreak, CapImm, CapReg, CapGet}
use Rattle.rv_instr.specs.Range.{InRange, count_bits}
use Rattle.rv_code.specs.declared.fields.Fields.{Fields}
use Rattle.rv_code.specs.Formats.{word_of, r_format, i_format, s_format, b_format, u_format, j_format}
use Rattle.rv_code.specs.Table.{upper_opcode, branch_funct3, load_funct3, store_funct3, imm_opcode, imm_funct3}
use Rattle.rv_code.specs.Table.{shift_opcode, shift_high, shift_funct3, reg_opcode, reg_funct7, reg_funct3}
use Rattle.rv_code.specs.Table.{cap_imm_funct3, cap_reg_funct7, cap_get_rs2}

-- the format of each instruction, and what stands in its fields
unfoldable pub fields_of : Instr → Fields
fields_of (Upper op rd field) = u_format field rd (upper_opcode op)
fields_of (Cjal rd offset) = j_format offset rd 0x6f
fields_of (Cjalr rd rs1 offset) = i_format offset rs1 0 rd 0x67
fields_of (Branch op rs1 rs2 offset) = b_format offset rs2 rs1 (branch_funct3 op) 0x63
fields_of (Load op rd rs1 offset) = i_format offset rs1 (load_funct3 op) rd 0x03
fields_of (Store op rs2 rs1 offset) = s_format offset rs2 rs1 (store_funct3 op) 0x23
fields_of (Clc rd rs1 offset) = i_format offset rs1 2 rd 0x0f
fields_of (Imm op rd rs1 number) = i_format number rs1 (imm_funct3 op) rd (imm_opcode op)
fields_of (Shift op rd rs1 count) =
    i_format (pos (shift_high op * 2 ^ count_bits op + count)) rs1 (shift_funct3 op) rd (shift_opcode op)
fields_of (Op op rd rs1 rs2) = r_format (reg_funct7 op) rs2 rs1 (reg_funct3 op) rd (reg_opcode op)
fields_of Ecall = i_format (pos 0) 0 0 0 0x73
fields_of Ebreak = i_format (pos 1) 0 0 0 0x73
fields_of (CapImm op rd rs1 number) = i_format number rs1 (cap_imm_funct3 op) rd 0x5b
fields_of (CapReg op rd rs1 rs2) = r_format (cap_reg_funct7 op) rs2 rs1 0 rd 0x5b
fields_of (CapGet op rd rs1) = r_format 0x7f (cap_get_rs2 op) rs1 0 rd 0x5b

-- The word w is the instruction i: its fields are in range, and they make the word.
pub record Encodes (w : ℕ) (i : Instr) : Type 0 where
  pub in_range : InRange i
  pub word : w ≡ word_of (fields_of i)
