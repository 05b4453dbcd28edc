-- The rows of the instruction table: the fixed fields of an instruction name it, and what they name has them.
use Rattle.std.proofs.Common.{◌≡◌, ℕ, Bool, true, false, cond, eqb, ◌&&◌, List, [], ◌∷◌, Option, Some, refl, subst}
use Rattle.std.specs.List.{find}
use Rattle.std.proofs.lemmas.Bool.{eqb-true, and_parts}
use Rattle.std.proofs.lemmas.Option.{same_Some}
use Rattle.rv_instr.specs.declared.ops.UpperOp.{UpperOp}
use Rattle.rv_instr.specs.declared.ops.BranchOp.{BranchOp}
use Rattle.rv_instr.specs.declared.ops.LoadOp.{LoadOp}
use Rattle.rv_instr.specs.declared.ops.StoreOp.{StoreOp}
use Rattle.rv_instr.specs.declared.ops.ImmOp.{ImmOp}
use Rattle.rv_instr.specs.declared.ops.ShiftOp.{ShiftOp}
use Rattle.rv_instr.specs.declared.ops.RegOp.{RegOp}
use Rattle.rv_instr.specs.declared.ops.CapImmOp.{CapImmOp}
use Rattle.rv_instr.specs.declared.ops.CapRegOp.{CapRegOp}
use Rattle.rv_instr.specs.declared.ops.CapGetOp.{CapGetOp}
use Rattle.rv_code.specs.Table.{upper_opcode, branch_funct3, load_funct3, store_funct3, imm_opcode, imm_funct3}
use Rattle.rv_code.specs.Table.{shift_opcode, shift_high, shift_funct3, reg_opcode, reg_funct7, reg_funct3}
use Rattle.rv_code.specs.Table.{cap_imm_funct3, cap_reg_funct7, cap_get_rs2}
use Rattle.rv_code.specs.Lookup.{upper_ops, upper_named, branch_ops, branch_named, load_ops, load_named, store_ops}
use Rattle.rv_code.specs.Lookup.{store_named, imm_ops, imm_named, shift_ops, shift_named, reg_ops, reg_named}
use Rattle.rv_code.specs.Lookup.{cap_imm_ops, cap_imm_named, cap_reg_ops, cap_reg_named, cap_get_ops, cap_get_named}

-- ---- what is found passes the test

choice_passes : {A : Type 0} (test : A → Bool) (y : A) (rest : Option A) (x : A) → (rest ≡ Some x → test x ≡ true)
    → (b : Bool) → test y ≡ b → cond b (Some y) rest ≡ Some x → test x ≡ true
choice_passes test y rest x later true t e = subst (λ z. test z ≡ true) (same_Some y x e) t
choice_passes test y rest x later false t e = later e

found_passes : {A : Type 0} (test : A → Bool) (xs : List A) (x : A) → find test xs ≡ Some x → test x ≡ true
found_passes test [] x e = absurd cc
found_passes test (y ∷ ys) x e = choice_passes test y (find test ys) x (λ h. found_passes test ys x h) (test y) refl e

field_of : {A : Type 0} (field : A → ℕ) (ops : List A) (n : ℕ) (op : A) → find (λ o. eqb (field o) n) ops ≡ Some op →
    field op ≡ n
field_of field ops n op e = eqb-true _ _ (found_passes (λ o. eqb (field o) n) ops op e)

-- ---- one field

pub upper-named : (opcode : ℕ) (op : UpperOp) → upper_named opcode ≡ Some op → upper_opcode op ≡ opcode
upper-named opcode op e = field_of upper_opcode upper_ops opcode op e

pub branch-named : (funct3 : ℕ) (op : BranchOp) → branch_named funct3 ≡ Some op → branch_funct3 op ≡ funct3
branch-named funct3 op e = field_of branch_funct3 branch_ops funct3 op e

pub load-named : (funct3 : ℕ) (op : LoadOp) → load_named funct3 ≡ Some op → load_funct3 op ≡ funct3
load-named funct3 op e = field_of load_funct3 load_ops funct3 op e

pub store-named : (funct3 : ℕ) (op : StoreOp) → store_named funct3 ≡ Some op → store_funct3 op ≡ funct3
store-named funct3 op e = field_of store_funct3 store_ops funct3 op e

pub cap_imm-named : (funct3 : ℕ) (op : CapImmOp) → cap_imm_named funct3 ≡ Some op → cap_imm_funct3 op ≡ funct3
cap_imm-named funct3 op e = field_of cap_imm_funct3 cap_imm_ops funct3 op e

pub cap_reg-named : (funct7 : ℕ) (op : CapRegOp) → cap_reg_named funct7 ≡ Some op → cap_reg_funct7 op ≡ funct7
cap_reg-named funct7 op e = field_of cap_reg_funct7 cap_reg_ops funct7 op e

pub cap_get-named : (rs2 : ℕ) (op : CapGetOp) → cap_get_named rs2 ≡ Some op → cap_get_rs2 op ≡ rs2
cap_get-named rs2 op e = field_of cap_get_rs2 cap_get_ops rs2 op e

-- ---- two fields and three

pub imm-named : (opcode funct3 : ℕ) (op : ImmOp) → imm_named opcode funct3 ≡ Some op →
    (imm_opcode op ≡ opcode) × (imm_funct3 op ≡ funct3)
imm-named opcode funct3 op e =
    let t = and_parts _ _ (found_passes (λ (o : ImmOp). eqb (imm_opcode o) opcode && eqb (imm_funct3 o) funct3) imm_ops
    op e) in
    (eqb-true _ _ t.0, eqb-true _ _ t.1)

pub shift-named : (opcode high funct3 : ℕ) (op : ShiftOp) → shift_named opcode high funct3 ≡ Some op
    → (shift_opcode op ≡ opcode) × (shift_high op ≡ high) × (shift_funct3 op ≡ funct3)
shift-named opcode high funct3 op e =
    let t = and_parts _ _ (found_passes (λ (o : ShiftOp). eqb (shift_opcode o) opcode && eqb (shift_high o) high
    && eqb (shift_funct3 o) funct3) shift_ops op e) in
    let u = and_parts _ _ t.0 in
    (eqb-true _ _ u.0, eqb-true _ _ u.1, eqb-true _ _ t.1)

pub reg-named : (opcode funct7 funct3 : ℕ) (op : RegOp) → reg_named opcode funct7 funct3 ≡ Some op
    → (reg_opcode op ≡ opcode) × (reg_funct7 op ≡ funct7) × (reg_funct3 op ≡ funct3)
reg-named opcode funct7 funct3 op e =
    let t = and_parts _ _ (found_passes (λ (o : RegOp). eqb (reg_opcode o) opcode && eqb (reg_funct7 o) funct7
    && eqb (reg_funct3 o) funct3) reg_ops op e) in
    let u = and_parts _ _ t.0 in
    (eqb-true _ _ u.0, eqb-true _ _ u.1, eqb-true _ _ t.1)
