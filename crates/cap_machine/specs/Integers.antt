-- The results of the integer instructions (RISC-V unprivileged ISA, RV64I and the M extension), as operations and
-- comparisons of kinds of integers. A register's integer is kept in 64 bits.
use Rattle.std.specs.Prelude.{ℕ, ◌*◌, Bool, ℤ, if◌then◌else◌}
use Rattle.ck_int.specs.declared.kinds.IntKind.{IntKind}
use Rattle.ck_int.specs.declared.kinds.IntKind.TheVariants as kind
use Rattle.ck_int.specs.declared.kinds.IntOp.TheVariants as op
use Rattle.ck_int.specs.declared.kinds.CmpOp.TheVariants as test
use Rattle.ck_int.specs.Arithmetic.{binary_of, compare_of}
use Rattle.ck_int.specs.Kinds.{converted, kept_of}
use Rattle.rv_instr.specs.declared.ops.BranchOp.{BranchOp}
use Rattle.rv_instr.specs.declared.ops.BranchOp.TheVariants.{Beq, Bne, Blt, Bge, Bltu, Bgeu}
use Rattle.rv_instr.specs.declared.ops.LoadOp.{LoadOp}
use Rattle.rv_instr.specs.declared.ops.LoadOp.TheVariants.{Lb, Lh, Lw, Ld, Lbu, Lhu, Lwu}
use Rattle.rv_instr.specs.declared.ops.StoreOp.{StoreOp}
use Rattle.rv_instr.specs.declared.ops.StoreOp.TheVariants.{Sb, Sh, Sw, Sd, Csc}
use Rattle.rv_instr.specs.declared.ops.ImmOp.{ImmOp}
use Rattle.rv_instr.specs.declared.ops.ImmOp.TheVariants.{Addi, Slti, Sltiu, Xori, Ori, Andi, Addiw}
use Rattle.rv_instr.specs.declared.ops.ShiftOp.{ShiftOp}
use Rattle.rv_instr.specs.declared.ops.ShiftOp.TheVariants.{Slli, Srli, Srai, Slliw, Srliw, Sraiw}
use Rattle.rv_instr.specs.declared.ops.RegOp.{RegOp}
use Rattle.rv_instr.specs.declared.ops.RegOp.TheVariants.{Add, Sll, Slt, Sltu, Xor, Srl, Or, And, Sub, Sra, Mul, Div}
use Rattle.rv_instr.specs.declared.ops.RegOp.TheVariants.{Divu, Rem, Remu, Addw, Sllw, Srlw, Subw, Sraw, Mulw, Divw}
use Rattle.rv_instr.specs.declared.ops.RegOp.TheVariants.{Divuw, Remw, Remuw}

-- 1 where the test holds
abbrev pub one_where : Bool → ℕ
one_where b = if b then 1 else 0

-- the sign extension of the low 32 bits
abbrev pub word : ℕ → ℕ
word v = converted kind.U32 kind.I32 v

-- of two registers. A name that ends in `w` works on the low 32 bits and gives the sign extension of 32 bits
unfoldable pub result_of : RegOp → ℕ → ℕ → ℕ
result_of Add a b = binary_of op.Add kind.I64 a b
result_of Sub a b = binary_of op.Sub kind.I64 a b
result_of And a b = binary_of op.And kind.I64 a b
result_of Or a b = binary_of op.Or kind.I64 a b
result_of Xor a b = binary_of op.Xor kind.I64 a b
result_of Sll a b = binary_of op.Shl kind.I64 a b
result_of Srl a b = binary_of op.Shr kind.U64 a b
result_of Sra a b = binary_of op.Shr kind.I64 a b
result_of Slt a b = one_where (compare_of test.Lt kind.I64 a b)
result_of Sltu a b = one_where (compare_of test.Lt kind.U64 a b)
result_of Mul a b = binary_of op.Mul kind.I64 a b
result_of Div a b = binary_of op.Div kind.I64 a b
result_of Divu a b = binary_of op.Div kind.U64 a b
result_of Rem a b = binary_of op.Rem kind.I64 a b
result_of Remu a b = binary_of op.Rem kind.U64 a b
result_of Addw a b = binary_of op.Add kind.I32 a b
result_of Subw a b = binary_of op.Sub kind.I32 a b
result_of Sllw a b = binary_of op.Shl kind.I32 a b
result_of Srlw a b = word (binary_of op.Shr kind.U32 a b)
result_of Sraw a b = binary_of op.Shr kind.I32 a b
result_of Mulw a b = binary_of op.Mul kind.I32 a b
result_of Divw a b = binary_of op.Div kind.I32 a b
result_of Divuw a b = word (binary_of op.Div kind.U32 a b)
result_of Remw a b = binary_of op.Rem kind.I32 a b
result_of Remuw a b = word (binary_of op.Rem kind.U32 a b)

-- the register operation of an instruction with an immediate
abbrev pub immediate_op : ImmOp → RegOp
immediate_op Addi = Add
immediate_op Slti = Slt
immediate_op Sltiu = Sltu
immediate_op Xori = Xor
immediate_op Ori = Or
immediate_op Andi = And
immediate_op Addiw = Addw

-- the register operation of a shift by a count in the instruction
abbrev pub shift_op : ShiftOp → RegOp
shift_op Slli = Sll
shift_op Srli = Srl
shift_op Srai = Sra
shift_op Slliw = Sllw
shift_op Srliw = Srlw
shift_op Sraiw = Sraw

-- whether a branch is taken
unfoldable pub is_taken : BranchOp → ℕ → ℕ → Bool
is_taken Beq a b = compare_of test.Eq kind.I64 a b
is_taken Bne a b = compare_of test.Ne kind.I64 a b
is_taken Blt a b = compare_of test.Lt kind.I64 a b
is_taken Bge a b = compare_of test.Ge kind.I64 a b
is_taken Bltu a b = compare_of test.Lt kind.U64 a b
is_taken Bgeu a b = compare_of test.Ge kind.U64 a b

-- an immediate's sign extension to 64 bits
abbrev pub extended : ℤ → ℕ
extended z = kept_of z

-- the 20 upper bits of a word, sign-extended to 64 bits
abbrev pub upper : ℕ → ℕ
upper n = word (n * 4096)

-- the kind that a load reads, which it extends to 64 bits
abbrev pub loaded_kind : LoadOp → IntKind
loaded_kind Lb = kind.I8
loaded_kind Lh = kind.I16
loaded_kind Lw = kind.I32
loaded_kind Ld = kind.I64
loaded_kind Lbu = kind.U8
loaded_kind Lhu = kind.U16
loaded_kind Lwu = kind.U32

-- the number of bytes that a load reads
abbrev pub loaded_bytes : LoadOp → ℕ
loaded_bytes Lb = 1
loaded_bytes Lh = 2
loaded_bytes Lw = 4
loaded_bytes Ld = 8
loaded_bytes Lbu = 1
loaded_bytes Lhu = 2
loaded_bytes Lwu = 4

-- the number of bytes that a store writes
abbrev pub stored_bytes : StoreOp → ℕ
stored_bytes Sb = 1
stored_bytes Sh = 2
stored_bytes Sw = 4
stored_bytes Sd = 8
stored_bytes Csc = 16
