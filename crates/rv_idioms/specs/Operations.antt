-- The words that selection puts for comparisons, and which operation it takes.
use Rattle.std.specs.Prelude.{ℕ, ℤ, Bool, true, false, List, [], ◌∷◌}
use Rattle.ck_int.specs.declared.kinds.CmpOp.{CmpOp}
use Rattle.ck_int.specs.declared.kinds.CmpOp.TheVariants as test
use Rattle.ck_int.specs.declared.kinds.IntKind.{IntKind}
use Rattle.ck_int.specs.declared.kinds.IntKind.TheVariants as int
use Rattle.ck_int.specs.declared.kinds.IntOp.{IntOp}
use Rattle.ck_int.specs.declared.kinds.IntOp.TheVariants as op
use Rattle.rv_instr.specs.declared.instr.Instr.{Instr}
use Rattle.rv_instr.specs.declared.instr.Instr.TheVariants.{Imm}
use Rattle.rv_instr.specs.declared.ops.ImmOp.TheVariants.{Xori}
use Rattle.rv_instr.specs.declared.ops.RegOp.{RegOp}
use Rattle.rv_instr.specs.declared.ops.RegOp.TheVariants.{Remu, Remw}
use Rattle.select_words.specs.Integers.{unsigned_op}
use Rattle.select_words.specs.Operations.{less_number, turn_round, is_zero, is_some}

-- ---- comparisons

-- with zero, by equality or its opposite
abbrev pub zero_code : CmpOp → (r x : ℕ) → List Instr
zero_code test.Eq r x = is_zero r x ∷ []
zero_code o r x = is_some r x ∷ []

-- with a number, by "less" or its opposite, or by equality or its opposite
abbrev pub number_code : CmpOp → Bool → (z : ℤ) → (r x : ℕ) → List Instr
number_code test.Eq signed z r x = Imm Xori r x z ∷ is_zero r r ∷ []
number_code test.Ne signed z r x = Imm Xori r x z ∷ is_some r r ∷ []
number_code test.Ge signed z r x = Imm (less_number signed) r x z ∷ turn_round r ∷ []
number_code o signed z r x = Imm (less_number signed) r x z ∷ []

-- ---- operations

-- without a sign, where the remainder of two numbers of 32 bits is the same in 64
abbrev pub without_sign : RegOp → RegOp
without_sign Remw = Remu
without_sign i = unsigned_op i

-- at kinds of fewer than 32 bits these would give a number of the kind
abbrev pub exact_below : IntOp → Bool
exact_below op.And = true
exact_below op.Or = true
exact_below op.Xor = true
exact_below op.Shr = true
exact_below o = false

-- the words that reduce a register to a kind, at most
abbrev pub reduce_words : IntKind → ℕ
reduce_words int.I64 = 0
reduce_words int.U64 = 0
reduce_words k = 2
