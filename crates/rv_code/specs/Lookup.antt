-- The table read from the fields: the instruction of a kind that has these fixed fields, if one has.
use Rattle.std.specs.Prelude.{ℕ, ◌==◌, ◌&&◌, List, [], ◌∷◌, Option}
use Rattle.std.specs.List.{find}
use Rattle.rv_instr.specs.declared.ops.UpperOp.{UpperOp}
use Rattle.rv_instr.specs.declared.ops.UpperOp.TheVariants.{Lui, Auipcc}
use Rattle.rv_instr.specs.declared.ops.BranchOp.{BranchOp}
use Rattle.rv_instr.specs.declared.ops.BranchOp.TheVariants.{Beq, Bne, Blt, Bge, Bltu, Bgeu}
use Rattle.rv_instr.specs.declared.ops.LoadOp.{LoadOp}
use Rattle.rv_instr.specs.declared.ops.LoadOp.TheVariants.{Lb, Lh, Lw, Ld, Lbu, Lhu, Lwu}
use Rattle.rv_instr.specs.declared.ops.StoreOp.{StoreOp}
use Rattle.rv_instr.specs.declared.ops.StoreOp.TheVariants.{Sb, Sh, Sw, Sd, Csc}
use Rattle.rv_instr.specs.declared.ops.ImmOp.{ImmOp}
use Rattle.rv_instr.specs.declared.ops.ImmOp.TheVariants.{Addi, Slti, Sltiu, Xori, Ori, Andi, Addiw}
use Rattle.rv_instr.specs.declared.ops.ShiftOp.{ShiftOp}
use Rattle.rv_instr.specs.declared.ops.ShiftOp.TheVariants.{Slli, Srli, Srai, Slliw, Srliw, Sraiw}
use Rattle.rv_instr.specs.declared.ops.RegOp.{RegOp}
use Rattle.rv_instr.specs.declared.ops.RegOp.TheVariants.{Add, Sll, Slt, Sltu, Xor, Srl, Or, And, Sub, Sra, Mul, Div}
use Rattle.rv_instr.specs.declared.ops.RegOp.TheVariants.{Divu, Rem, Remu, Addw, Sllw, Srlw, Subw, Sraw, Mulw, Divw}
use Rattle.rv_instr.specs.declared.ops.RegOp.TheVariants.{Divuw, Remw, Remuw}
use Rattle.rv_instr.specs.declared.ops.CapImmOp.{CapImmOp}
use Rattle.rv_instr.specs.declared.ops.CapImmOp.TheVariants.{Cincoffsetimm, Csetboundsimm}
use Rattle.rv_instr.specs.declared.ops.CapRegOp.{CapRegOp}
use Rattle.rv_instr.specs.declared.ops.CapRegOp.TheVariants.{Csetbounds, Csetboundsexact, Candperm, Csetaddr}
use Rattle.rv_instr.specs.declared.ops.CapRegOp.TheVariants.{Cincoffset, Csetequalexact}
use Rattle.rv_instr.specs.declared.ops.CapGetOp.{CapGetOp}
use Rattle.rv_instr.specs.declared.ops.CapGetOp.TheVariants.{Cgetperm, Cgetbase, Cgetlen, Cgettag, Cgetoffset, Crrl}
use Rattle.rv_instr.specs.declared.ops.CapGetOp.TheVariants.{Cram, Cmove, Ccleartag, Cgetaddr, Csealentry}
use Rattle.rv_code.specs.Table.{upper_opcode, branch_funct3, load_funct3, store_funct3, imm_opcode, imm_funct3}
use Rattle.rv_code.specs.Table.{shift_opcode, shift_high, shift_funct3, reg_opcode, reg_funct7, reg_funct3}
use Rattle.rv_code.specs.Table.{cap_imm_funct3, cap_reg_funct7, cap_get_rs2}

abbrev pub upper_ops : List UpperOp
upper_ops = Lui ∷ Auipcc ∷ []

abbrev pub upper_named : ℕ → Option UpperOp
upper_named opcode = find (λ op. upper_opcode op == opcode) upper_ops

abbrev pub branch_ops : List BranchOp
branch_ops = Beq ∷ Bne ∷ Blt ∷ Bge ∷ Bltu ∷ Bgeu ∷ []

abbrev pub branch_named : ℕ → Option BranchOp
branch_named funct3 = find (λ op. branch_funct3 op == funct3) branch_ops

abbrev pub load_ops : List LoadOp
load_ops = Lb ∷ Lh ∷ Lw ∷ Ld ∷ Lbu ∷ Lhu ∷ Lwu ∷ []

abbrev pub load_named : ℕ → Option LoadOp
load_named funct3 = find (λ op. load_funct3 op == funct3) load_ops

abbrev pub store_ops : List StoreOp
store_ops = Sb ∷ Sh ∷ Sw ∷ Sd ∷ Csc ∷ []

abbrev pub store_named : ℕ → Option StoreOp
store_named funct3 = find (λ op. store_funct3 op == funct3) store_ops

abbrev pub imm_ops : List ImmOp
imm_ops = Addi ∷ Slti ∷ Sltiu ∷ Xori ∷ Ori ∷ Andi ∷ Addiw ∷ []

abbrev pub imm_named : ℕ → ℕ → Option ImmOp
imm_named opcode funct3 = find (λ op. (imm_opcode op == opcode) && (imm_funct3 op == funct3)) imm_ops

abbrev pub shift_ops : List ShiftOp
shift_ops = Slli ∷ Srli ∷ Srai ∷ Slliw ∷ Srliw ∷ Sraiw ∷ []

abbrev pub shift_named : ℕ → ℕ → ℕ → Option ShiftOp
shift_named opcode high funct3 =
    find (λ op. (shift_opcode op == opcode) && (shift_high op == high) && (shift_funct3 op == funct3)) shift_ops

abbrev pub reg_ops : List RegOp
reg_ops = Add ∷ Sll ∷ Slt ∷ Sltu ∷ Xor ∷ Srl ∷ Or ∷ And ∷ Sub ∷ Sra ∷ Mul ∷ Div ∷ Divu ∷ Rem ∷ Remu ∷ Addw ∷ Sllw ∷ Srlw
    ∷ Subw ∷ Sraw ∷ Mulw ∷ Divw ∷ Divuw ∷ Remw ∷ Remuw ∷ []

abbrev pub reg_named : ℕ → ℕ → ℕ → Option RegOp
reg_named opcode funct7 funct3 =
    find (λ op. (reg_opcode op == opcode) && (reg_funct7 op == funct7) && (reg_funct3 op == funct3)) reg_ops

abbrev pub cap_imm_ops : List CapImmOp
cap_imm_ops = Cincoffsetimm ∷ Csetboundsimm ∷ []

abbrev pub cap_imm_named : ℕ → Option CapImmOp
cap_imm_named funct3 = find (λ op. cap_imm_funct3 op == funct3) cap_imm_ops

abbrev pub cap_reg_ops : List CapRegOp
cap_reg_ops = Csetbounds ∷ Csetboundsexact ∷ Candperm ∷ Csetaddr ∷ Cincoffset ∷ Csetequalexact ∷ []

abbrev pub cap_reg_named : ℕ → Option CapRegOp
cap_reg_named funct7 = find (λ op. cap_reg_funct7 op == funct7) cap_reg_ops

abbrev pub cap_get_ops : List CapGetOp
cap_get_ops = Cgetperm ∷ Cgetbase ∷ Cgetlen ∷ Cgettag ∷ Cgetoffset ∷ Crrl ∷ Cram ∷ Cmove ∷ Ccleartag ∷ Cgetaddr
    ∷ Csealentry ∷ []

abbrev pub cap_get_named : ℕ → Option CapGetOp
cap_get_named rs2 = find (λ op. cap_get_rs2 op == rs2) cap_get_ops
