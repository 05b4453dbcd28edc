-- The fields of an instruction in range are read as it.
use Rattle.std.proofs.Common.{◌≡◌, ℕ, ◌+◌, ◌*◌, ◌^◌, ◌<◌, Some, refl, ap, arith, lit<}
use Rattle.std.specs.Prelude.{ℤ, pos, negsuc}
use Rattle.rv_instr.specs.declared.instr.Instr.{Instr}
use Rattle.rv_instr.specs.declared.instr.Instr.TheVariants.{Upper, Cjal, Cjalr, Branch, Load, Store, Clc, Imm, Shift}
use Rattle.rv_instr.specs.declared.instr.Instr.TheVariants.{Op, Ecall, Ebreak, CapImm, CapReg, CapGet}
use Rattle.rv_instr.specs.declared.ops.UpperOp.{UpperOp}
use Rattle.rv_instr.specs.declared.ops.UpperOp.TheVariants.{Lui}
use Rattle.rv_instr.specs.declared.ops.BranchOp.{BranchOp}
use Rattle.rv_instr.specs.declared.ops.BranchOp.TheVariants.{Beq}
use Rattle.rv_instr.specs.declared.ops.LoadOp.{LoadOp}
use Rattle.rv_instr.specs.declared.ops.LoadOp.TheVariants.{Lb}
use Rattle.rv_instr.specs.declared.ops.StoreOp.{StoreOp}
use Rattle.rv_instr.specs.declared.ops.StoreOp.TheVariants.{Sb}
use Rattle.rv_instr.specs.declared.ops.ImmOp.{ImmOp}
use Rattle.rv_instr.specs.declared.ops.ImmOp.TheVariants.{Addi}
use Rattle.rv_instr.specs.declared.ops.ShiftOp.{ShiftOp}
use Rattle.rv_instr.specs.declared.ops.ShiftOp.TheVariants.{Slli, Srli, Srai, Slliw, Srliw, Sraiw}
use Rattle.rv_instr.specs.declared.ops.RegOp.{RegOp}
use Rattle.rv_instr.specs.declared.ops.RegOp.TheVariants.{Add}
use Rattle.rv_instr.specs.declared.ops.CapImmOp.{CapImmOp}
use Rattle.rv_instr.specs.declared.ops.CapImmOp.TheVariants.{Cincoffsetimm, Csetboundsimm}
use Rattle.rv_instr.specs.declared.ops.CapRegOp.{CapRegOp}
use Rattle.rv_instr.specs.declared.ops.CapRegOp.TheVariants.{Csetbounds}
use Rattle.rv_instr.specs.declared.ops.CapGetOp.{CapGetOp}
use Rattle.rv_instr.specs.declared.ops.CapGetOp.TheVariants.{Cgetperm}
use Rattle.rv_instr.specs.Range.{InRange, FitsBits, IsEven, CapImmFits, count_bits}
use Rattle.rv_code.specs.declared.fields.Fields.{Fields}
use Rattle.rv_code.specs.Formats.{bits}
use Rattle.rv_code.specs.Lookup.{shift_named}
use Rattle.rv_code.specs.Encoding.{fields_of}
use Rattle.rv_code.specs.Decoding.{upper_at, cjal_at, cjalr_at, branch_at, load_at, store_at, clc_at, imm_at}
use Rattle.rv_code.specs.Decoding.{long_shift_at, word_shift_at, op_imm_at, op_imm_32_at, reg_at, system_at, cap_imm_at}
use Rattle.rv_code.specs.Decoding.{cap_get_at, cap_reg_at, cap_at, instr_at}
use Rattle.std.proofs.lemmas.Int.{ints}
use Rattle.rv_code.proofs.Immediates.{i-again, b-again, j-again, u-again}

upper-back : (op : UpperOp) (rd field : ℕ) → field < 2 ^ 20 →
    instr_at (fields_of (Upper op rd field)) ≡ Some (Upper op rd field)
unfolding instr_at fields_of upper_at
upper-back Lui rd field h = ap (λ (n : ℕ). Some (Upper Lui rd n)) (u-again field h)
upper-back op rd field h = ap (λ (n : ℕ). Some (Upper op rd n)) (u-again field h)

cjal-back : (rd : ℕ) (offset : ℤ) → FitsBits 21 offset → IsEven offset →
    instr_at (fields_of (Cjal rd offset)) ≡ Some (Cjal rd offset)
unfolding instr_at fields_of cjal_at
cjal-back rd offset h even = ap (λ (z : ℤ). Some (Cjal rd z)) (j-again offset h even)

cjalr-back : (rd rs1 : ℕ) (offset : ℤ) → FitsBits 12 offset →
    instr_at (fields_of (Cjalr rd rs1 offset)) ≡ Some (Cjalr rd rs1 offset)
unfolding instr_at fields_of cjalr_at
cjalr-back rd rs1 offset h = ap (λ (z : ℤ). Some (Cjalr rd rs1 z)) (i-again offset h)

branch-back : (op : BranchOp) (rs1 rs2 : ℕ) (offset : ℤ) → FitsBits 13 offset → IsEven offset →
    instr_at (fields_of (Branch op rs1 rs2 offset)) ≡ Some (Branch op rs1 rs2 offset)
unfolding instr_at fields_of branch_at
branch-back Beq rs1 rs2 offset h even = ap (λ (z : ℤ). Some (Branch Beq rs1 rs2 z)) (b-again offset h even)
branch-back op rs1 rs2 offset h even = ap (λ (z : ℤ). Some (Branch op rs1 rs2 z)) (b-again offset h even)

load-back : (op : LoadOp) (rd rs1 : ℕ) (offset : ℤ) → FitsBits 12 offset →
    instr_at (fields_of (Load op rd rs1 offset)) ≡ Some (Load op rd rs1 offset)
unfolding instr_at fields_of load_at
load-back Lb rd rs1 offset h = ap (λ (z : ℤ). Some (Load Lb rd rs1 z)) (i-again offset h)
load-back op rd rs1 offset h = ap (λ (z : ℤ). Some (Load op rd rs1 z)) (i-again offset h)

store-back : (op : StoreOp) (rs2 rs1 : ℕ) (offset : ℤ) → FitsBits 12 offset →
    instr_at (fields_of (Store op rs2 rs1 offset)) ≡ Some (Store op rs2 rs1 offset)
unfolding instr_at fields_of store_at
store-back Sb rs2 rs1 offset h = ap (λ (z : ℤ). Some (Store Sb rs2 rs1 z)) (i-again offset h)
store-back op rs2 rs1 offset h = ap (λ (z : ℤ). Some (Store op rs2 rs1 z)) (i-again offset h)

clc-back : (rd rs1 : ℕ) (offset : ℤ) → FitsBits 12 offset →
    instr_at (fields_of (Clc rd rs1 offset)) ≡ Some (Clc rd rs1 offset)
unfolding instr_at fields_of clc_at
clc-back rd rs1 offset h = ap (λ (z : ℤ). Some (Clc rd rs1 z)) (i-again offset h)

imm-back : (op : ImmOp) (rd rs1 : ℕ) (number : ℤ) → FitsBits 12 number →
    instr_at (fields_of (Imm op rd rs1 number)) ≡ Some (Imm op rd rs1 number)
unfolding instr_at fields_of op_imm_at op_imm_32_at imm_at
imm-back Addi rd rs1 number h = ap (λ (z : ℤ). Some (Imm Addi rd rs1 z)) (i-again number h)
imm-back op rd rs1 number h = ap (λ (z : ℤ). Some (Imm op rd rs1 z)) (i-again number h)

-- ---- shifts

long_shift-read : (f : Fields) (op : ShiftOp) (count : ℕ) →
    shift_named f.opcode (bits f.funct7 6 1) f.funct3 ≡ Some op → bits f.funct7 0 0 * 2 ^ 5 + f.rs2 ≡ count
    → long_shift_at f ≡ Some (Shift op f.rd f.rs1 count)
unfolding long_shift_at
long_shift-read f op count e c = rw (e, c) refl

long : (high count : ℕ) → high < 2 ^ 6 → count < 2 ^ 6
    → let n = high * 2 ^ 6 + count in
    (bits (bits n 11 5) 6 1 ≡ high) × (bits (bits n 11 5) 0 0 * 2 ^ 5 + bits n 4 0 ≡ count)
long high count a b = (omega arith, omega arith)

word_shift-read : (f : Fields) (op : ShiftOp) (count : ℕ) → shift_named f.opcode f.funct7 f.funct3 ≡ Some op →
    f.rs2 ≡ count
    → word_shift_at f ≡ Some (Shift op f.rd f.rs1 count)
unfolding word_shift_at
word_shift-read f op count e c = rw (e, c) refl

short : (high count : ℕ) → high < 2 ^ 7 → count < 2 ^ 5 → let n = high * 2 ^ 5 + count in
    (bits n 11 5 ≡ high) × (bits n 4 0 ≡ count)
short high count a b = (omega arith, omega arith)

shift-back : (op : ShiftOp) (rd rs1 count : ℕ) → count < 2 ^ count_bits op →
    instr_at (fields_of (Shift op rd rs1 count)) ≡ Some (Shift op rd rs1 count)
unfolding instr_at fields_of op_imm_at op_imm_32_at
shift-back Slli rd rs1 count h =
    let n = long 0 count (lit< tt) h in
    long_shift-read (fields_of (Shift Slli rd rs1 count)) Slli count (ap (λ (y : ℕ). shift_named 0x13 y 1) n.0) n.1
shift-back Srli rd rs1 count h =
    let n = long 0 count (lit< tt) h in
    long_shift-read (fields_of (Shift Srli rd rs1 count)) Srli count (ap (λ (y : ℕ). shift_named 0x13 y 5) n.0) n.1
shift-back Srai rd rs1 count h =
    let n = long 0x10 count (lit< tt) h in
    long_shift-read (fields_of (Shift Srai rd rs1 count)) Srai count (ap (λ (y : ℕ). shift_named 0x13 y 5) n.0) n.1
shift-back Slliw rd rs1 count h =
    let n = short 0 count (lit< tt) h in
    word_shift-read (fields_of (Shift Slliw rd rs1 count)) Slliw count (ap (λ (y : ℕ). shift_named 0x1b y 1) n.0) n.1
shift-back Srliw rd rs1 count h =
    let n = short 0 count (lit< tt) h in
    word_shift-read (fields_of (Shift Srliw rd rs1 count)) Srliw count (ap (λ (y : ℕ). shift_named 0x1b y 5) n.0) n.1
shift-back Sraiw rd rs1 count h =
    let n = short 0x20 count (lit< tt) h in
    word_shift-read (fields_of (Shift Sraiw rd rs1 count)) Sraiw count (ap (λ (y : ℕ). shift_named 0x1b y 5) n.0) n.1

-- ---- registers and capabilities

reg-back : (op : RegOp) (rd rs1 rs2 : ℕ) → instr_at (fields_of (Op op rd rs1 rs2)) ≡ Some (Op op rd rs1 rs2)
unfolding instr_at fields_of reg_at
reg-back Add rd rs1 rs2 = refl
reg-back _ rd rs1 rs2 = refl

unsigned-again : (n : ℕ) → n < 4096 → bits n 11 5 * 2 ^ 5 + bits n 4 0 ≡ n
unsigned-again n h = omega arith

cap_imm-back : (op : CapImmOp) (rd rs1 : ℕ) (number : ℤ) → CapImmFits op number →
    instr_at (fields_of (CapImm op rd rs1 number)) ≡ Some (CapImm op rd rs1 number)
unfolding instr_at fields_of cap_at cap_imm_at
cap_imm-back Cincoffsetimm rd rs1 number h = ap (λ (z : ℤ). Some (CapImm Cincoffsetimm rd rs1 z)) (i-again number h)
cap_imm-back Csetboundsimm rd rs1 (pos n) h =
    let below : n < 4096 = omega (arith, ints, h.1) in
    ap (λ (m : ℕ). Some (CapImm Csetboundsimm rd rs1 (pos m))) (unsigned-again n below)
cap_imm-back Csetboundsimm rd rs1 (negsuc n) h = absurd h.0.le

cap_reg-back : (op : CapRegOp) (rd rs1 rs2 : ℕ) →
    instr_at (fields_of (CapReg op rd rs1 rs2)) ≡ Some (CapReg op rd rs1 rs2)
unfolding instr_at fields_of cap_at cap_reg_at
cap_reg-back Csetbounds rd rs1 rs2 = refl
cap_reg-back _ rd rs1 rs2 = refl

cap_get-back : (op : CapGetOp) (rd rs1 : ℕ) → instr_at (fields_of (CapGet op rd rs1)) ≡ Some (CapGet op rd rs1)
unfolding instr_at fields_of cap_at cap_get_at
cap_get-back Cgetperm rd rs1 = refl
cap_get-back _ rd rs1 = refl

pub instr_at-fields_of : (i : Instr) → InRange i → instr_at (fields_of i) ≡ Some i
unfolding instr_at fields_of InRange system_at
instr_at-fields_of (Upper op rd field) h = upper-back op rd field h.1
instr_at-fields_of (Cjal rd offset) h = cjal-back rd offset h.1 h.2
instr_at-fields_of (Cjalr rd rs1 offset) h = cjalr-back rd rs1 offset h.2
instr_at-fields_of (Branch op rs1 rs2 offset) h = branch-back op rs1 rs2 offset h.2 h.3
instr_at-fields_of (Load op rd rs1 offset) h = load-back op rd rs1 offset h.2
instr_at-fields_of (Store op rs2 rs1 offset) h = store-back op rs2 rs1 offset h.2
instr_at-fields_of (Clc rd rs1 offset) h = clc-back rd rs1 offset h.2
instr_at-fields_of (Imm op rd rs1 number) h = imm-back op rd rs1 number h.2
instr_at-fields_of (Shift op rd rs1 count) h = shift-back op rd rs1 count h.2
instr_at-fields_of (Op op rd rs1 rs2) h = reg-back op rd rs1 rs2
instr_at-fields_of Ecall h = refl
instr_at-fields_of Ebreak h = refl
instr_at-fields_of (CapImm op rd rs1 number) h = cap_imm-back op rd rs1 number h.2
instr_at-fields_of (CapReg op rd rs1 rs2) h = cap_reg-back op rd rs1 rs2
instr_at-fields_of (CapGet op rd rs1) h = cap_get-back op rd rs1
