-- The instruction of a word as a function, for definitions that go from words to instructions, as a machine's step
-- does. It is Encoding read from the word: `decode` ensures so, and `proofs/Laws` has it as lemmas.
use Rattle.std.specs.Prelude.{ℕ, ℤ, pos, negsuc, suc, ◌+◌, ◌-◌, ◌*◌, ◌^◌, ◌==◌, ◌||◌, ◌&&◌, nat_lt, Option, Some, None}
use Rattle.std.specs.Prelude.{if◌then◌else◌}
use Rattle.std.specs.Option.{option_map}
use Rattle.rv_instr.specs.declared.instr.Instr.{Instr}
use Rattle.rv_instr.specs.declared.instr.Instr.TheVariants.{Upper, Cjal, Cjalr, Branch, Load, Store, Clc, Imm, Shift}
use Rattle.rv_instr.specs.declared.instr.Instr.TheVariants.{Op, Ecall, Ebreak, CapImm, CapReg, CapGet}
use Rattle.rv_instr.specs.declared.ops.CapImmOp.{CapImmOp}
use Rattle.rv_instr.specs.declared.ops.CapImmOp.TheVariants.{Cincoffsetimm, Csetboundsimm}
use Rattle.rv_code.specs.declared.fields.Fields.{Fields}
use Rattle.rv_code.specs.Formats.{bits}
use Rattle.rv_code.specs.Lookup.{upper_named, branch_named, load_named, store_named, imm_named, shift_named, reg_named}
use Rattle.rv_code.specs.Lookup.{cap_imm_named, cap_reg_named, cap_get_named}

-- the number whose two's complement in so many bits is n
abbrev pub sign_extended : ℕ → ℕ → ℤ
sign_extended width n = if nat_lt n (2 ^ (width - 1)) then pos n else negsuc (2 ^ width - suc n)

-- the immediate of each format: the fields' bits in the places that they have in it
abbrev pub i_bits : Fields → ℕ
i_bits f = f.funct7 * 2 ^ 5 + f.rs2

abbrev pub s_bits : Fields → ℕ
s_bits f = f.funct7 * 2 ^ 5 + f.rd

abbrev pub b_bits : Fields → ℕ
b_bits f = bits f.funct7 6 6 * 2 ^ 12 + bits f.rd 0 0 * 2 ^ 11 + bits f.funct7 5 0 * 2 ^ 5 + bits f.rd 4 1 * 2

abbrev pub u_bits : Fields → ℕ
u_bits f = f.funct7 * 2 ^ 13 + f.rs2 * 2 ^ 8 + f.rs1 * 2 ^ 3 + f.funct3

abbrev pub j_bits : Fields → ℕ
j_bits f = bits f.funct7 6 6 * 2 ^ 20 + f.rs1 * 2 ^ 15 + f.funct3 * 2 ^ 12 + bits f.rs2 0 0 * 2 ^ 11
    + bits f.funct7 5 0 * 2 ^ 5 + bits f.rs2 4 1 * 2

-- the instruction that fields make under each opcode
unfoldable pub upper_at : Fields → Option Instr
upper_at f = option_map (λ op. Upper op f.rd (u_bits f)) (upper_named f.opcode)

unfoldable pub cjal_at : Fields → Option Instr
cjal_at f = Some (Cjal f.rd (sign_extended 21 (j_bits f)))

unfoldable pub cjalr_at : Fields → Option Instr
cjalr_at f = if f.funct3 == 0 then Some (Cjalr f.rd f.rs1 (sign_extended 12 (i_bits f))) else None

unfoldable pub branch_at : Fields → Option Instr
branch_at f = option_map (λ op. Branch op f.rs1 f.rs2 (sign_extended 13 (b_bits f))) (branch_named f.funct3)

unfoldable pub load_at : Fields → Option Instr
load_at f = option_map (λ op. Load op f.rd f.rs1 (sign_extended 12 (i_bits f))) (load_named f.funct3)

unfoldable pub store_at : Fields → Option Instr
store_at f = option_map (λ op. Store op f.rs2 f.rs1 (sign_extended 12 (s_bits f))) (store_named f.funct3)

unfoldable pub clc_at : Fields → Option Instr
clc_at f = if f.funct3 == 2 then Some (Clc f.rd f.rs1 (sign_extended 12 (i_bits f))) else None

unfoldable pub imm_at : Fields → Option Instr
imm_at f = option_map (λ op. Imm op f.rd f.rs1 (sign_extended 12 (i_bits f))) (imm_named f.opcode f.funct3)

-- a count of six bits
unfoldable pub long_shift_at : Fields → Option Instr
long_shift_at f = option_map (λ op. Shift op f.rd f.rs1 (bits f.funct7 0 0 * 2 ^ 5 + f.rs2))
    (shift_named f.opcode (bits f.funct7 6 1) f.funct3)

-- a count of five bits
unfoldable pub word_shift_at : Fields → Option Instr
word_shift_at f = option_map (λ op. Shift op f.rd f.rs1 f.rs2) (shift_named f.opcode f.funct7 f.funct3)

unfoldable pub op_imm_at : Fields → Option Instr
op_imm_at f = if f.funct3 == 1 || f.funct3 == 5 then long_shift_at f else imm_at f

unfoldable pub op_imm_32_at : Fields → Option Instr
op_imm_32_at f = if f.funct3 == 1 || f.funct3 == 5 then word_shift_at f else imm_at f

unfoldable pub reg_at : Fields → Option Instr
reg_at f = option_map (λ op. Op op f.rd f.rs1 f.rs2) (reg_named f.opcode f.funct7 f.funct3)

unfoldable pub system_at : Fields → Option Instr
system_at f =
    if f.rd == 0 && f.funct3 == 0 && f.rs1 == 0 && f.funct7 == 0
    then (if f.rs2 == 0 then Some Ecall else if f.rs2 == 1 then Some Ebreak else None)
    else None

abbrev pub cap_imm_number : CapImmOp → ℕ → ℤ
cap_imm_number Cincoffsetimm n = sign_extended 12 n
cap_imm_number Csetboundsimm n = pos n

unfoldable pub cap_imm_at : Fields → Option Instr
cap_imm_at f = option_map (λ op. CapImm op f.rd f.rs1 (cap_imm_number op (i_bits f))) (cap_imm_named f.funct3)

unfoldable pub cap_get_at : Fields → Option Instr
cap_get_at f = option_map (λ op. CapGet op f.rd f.rs1) (cap_get_named f.rs2)

unfoldable pub cap_reg_at : Fields → Option Instr
cap_reg_at f = option_map (λ op. CapReg op f.rd f.rs1 f.rs2) (cap_reg_named f.funct7)

unfoldable pub cap_at : Fields → Option Instr
cap_at f = if f.funct3 == 0 then (if f.funct7 == 0x7f then cap_get_at f else cap_reg_at f) else cap_imm_at f

unfoldable pub instr_at : Fields → Option Instr
instr_at f =
    if f.opcode == 0x37 || f.opcode == 0x17 then upper_at f
    else if f.opcode == 0x6f then cjal_at f
    else if f.opcode == 0x67 then cjalr_at f
    else if f.opcode == 0x63 then branch_at f
    else if f.opcode == 0x03 then load_at f
    else if f.opcode == 0x23 then store_at f
    else if f.opcode == 0x0f then clc_at f
    else if f.opcode == 0x13 then op_imm_at f
    else if f.opcode == 0x1b then op_imm_32_at f
    else if f.opcode == 0x33 || f.opcode == 0x3b then reg_at f
    else if f.opcode == 0x73 then system_at f
    else if f.opcode == 0x5b then cap_at f
    else None

-- the fields of a word
abbrev pub split_of : ℕ → Fields
split_of w = record {
  opcode = bits w 6 0;
  rd = bits w 11 7;
  funct3 = bits w 14 12;
  rs1 = bits w 19 15;
  rs2 = bits w 24 20;
  funct7 = bits w 31 25;
}

-- the instruction of a word, and None where the table has none
unfoldable pub decode_of : ℕ → Option Instr
decode_of w = instr_at (split_of w)
