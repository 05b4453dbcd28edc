-- The formats of an instruction word (RISC-V unprivileged ISA, RV32I, "Base Instruction Formats" and "Immediate
-- Encoding Variants").
use Rattle.std.specs.Prelude.{ℕ, ℤ, ◌+◌, ◌-◌, ◌*◌, ◌/◌, ◌%◌, ◌^◌, ◌<◌}
use Rattle.std.specs.Int.{w32, cast_unsigned}
use Rattle.rv_code.specs.declared.fields.Fields.{Fields}

-- A word is six fields: the opcode stands from bit 0 on, rd from 7, funct3 from 12, rs1 from 15, rs2 from 20 and funct7
-- from 25.
abbrev pub word_of : Fields → ℕ
word_of f = f.opcode + f.rd * 2 ^ 7 + f.funct3 * 2 ^ 12 + f.rs1 * 2 ^ 15 + f.rs2 * 2 ^ 20 + f.funct7 * 2 ^ 25

-- Each field is one that stands in its bits.
pub record FitsWord (f : Fields) : Type 0 where
  pub opcode : f.opcode < 2 ^ 7
  pub rd : f.rd < 2 ^ 5
  pub funct3 : f.funct3 < 2 ^ 3
  pub rs1 : f.rs1 < 2 ^ 5
  pub rs2 : f.rs2 < 2 ^ 5
  pub funct7 : f.funct7 < 2 ^ 7

-- n[high:low]
abbrev pub bits : ℕ → ℕ → ℕ → ℕ
bits n high low = n / 2 ^ low % 2 ^ (high + 1 - low)

-- imm[high:low] of an immediate in two's complement
abbrev pub imm_bits : ℤ → ℕ → ℕ → ℕ
imm_bits imm high low = bits (cast_unsigned w32 imm) high low

-- R: funct7 rs2 rs1 funct3 rd opcode
abbrev pub r_format : ℕ → ℕ → ℕ → ℕ → ℕ → ℕ → Fields
r_format funct7 rs2 rs1 funct3 rd opcode =
    record { opcode = opcode; rd = rd; funct3 = funct3; rs1 = rs1; rs2 = rs2; funct7 = funct7 }

-- I: imm[11:0] rs1 funct3 rd opcode
abbrev pub i_format : ℤ → ℕ → ℕ → ℕ → ℕ → Fields
i_format imm rs1 funct3 rd opcode = r_format (imm_bits imm 11 5) (imm_bits imm 4 0) rs1 funct3 rd opcode

-- S: imm[11:5] rs2 rs1 funct3 imm[4:0] opcode
abbrev pub s_format : ℤ → ℕ → ℕ → ℕ → ℕ → Fields
s_format imm rs2 rs1 funct3 opcode = r_format (imm_bits imm 11 5) rs2 rs1 funct3 (imm_bits imm 4 0) opcode

-- B: imm[12|10:5] rs2 rs1 funct3 imm[4:1|11] opcode
abbrev pub b_format : ℤ → ℕ → ℕ → ℕ → ℕ → Fields
b_format imm rs2 rs1 funct3 opcode =
    r_format (imm_bits imm 12 12 * 2 ^ 6 + imm_bits imm 10 5) rs2 rs1 funct3
    (imm_bits imm 4 1 * 2 + imm_bits imm 11 11) opcode

-- U: imm[31:12] rd opcode, where the field is the 20 bits imm[31:12]
abbrev pub u_format : ℕ → ℕ → ℕ → Fields
u_format field rd opcode = r_format (bits field 19 13) (bits field 12 8) (bits field 7 3) (bits field 2 0) rd opcode

-- J: imm[20|10:1|11|19:12] rd opcode
abbrev pub j_format : ℤ → ℕ → ℕ → Fields
j_format imm rd opcode =
    r_format (imm_bits imm 20 20 * 2 ^ 6 + imm_bits imm 10 5) (imm_bits imm 4 1 * 2 + imm_bits imm 11 11)
    (imm_bits imm 19 15) (imm_bits imm 14 12) rd opcode
