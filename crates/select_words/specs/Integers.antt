-- The operations of two registers.
use Rattle.std.specs.Prelude.{Bool, true, false}
use Rattle.ck_int.specs.declared.kinds.IntKind.{IntKind}
use Rattle.ck_int.specs.declared.kinds.IntKind.TheVariants as int
use Rattle.ck_int.specs.declared.kinds.IntOp.{IntOp}
use Rattle.ck_int.specs.declared.kinds.IntOp.TheVariants as op
use Rattle.rv_instr.specs.declared.ops.RegOp.{RegOp}
use Rattle.rv_instr.specs.declared.ops.RegOp.TheVariants.{Add, Sub, Mul, Div, Divu, Rem, Remu, And, Or, Xor, Sll, Srl}
use Rattle.rv_instr.specs.declared.ops.RegOp.TheVariants.{Sra, Slt, Sltu, Addw, Subw, Mulw, Divw, Divuw, Remw, Remuw}
use Rattle.rv_instr.specs.declared.ops.RegOp.TheVariants.{Sllw, Srlw, Sraw}

-- ---- operations, at the promoted kinds

abbrev pub long_op : IntOp → RegOp
long_op op.Add = Add
long_op op.Sub = Sub
long_op op.Mul = Mul
long_op op.Div = Div
long_op op.Rem = Rem
long_op op.And = And
long_op op.Or = Or
long_op op.Xor = Xor
long_op op.Shl = Sll
long_op op.Shr = Sra

abbrev pub short_op : IntOp → RegOp
short_op op.Add = Addw
short_op op.Sub = Subw
short_op op.Mul = Mulw
short_op op.Div = Divw
short_op op.Rem = Remw
short_op op.And = And
short_op op.Or = Or
short_op op.Xor = Xor
short_op op.Shl = Sllw
short_op op.Shr = Sraw

-- those without a sign differ in quotients, remainders and shifts to the right
abbrev pub unsigned_op : RegOp → RegOp
unsigned_op Div = Divu
unsigned_op Rem = Remu
unsigned_op Sra = Srl
unsigned_op Divw = Divuw
unsigned_op Remw = Remuw
unsigned_op Sraw = Srlw
unsigned_op o = o

abbrev pub reg_op : IntKind → IntOp → RegOp
reg_op int.I32 o = short_op o
reg_op int.U32 o = unsigned_op (short_op o)
reg_op int.U64 o = unsigned_op (long_op o)
reg_op k o = long_op o

-- ---- comparisons

abbrev pub less : Bool → RegOp
less true = Slt
less false = Sltu
