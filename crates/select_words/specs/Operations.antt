-- The words of operations on integers, of comparisons and of conversions.
use Rattle.std.specs.Prelude.{◌≡◌, ℕ, ◌+◌, ◌%◌, ◌^◌, ◌<◌, ◌≤◌, ℤ, pos, Bool, true, false, ◌&&◌, List, [], ◌∷◌, Option}
use Rattle.std.specs.Prelude.{Some, None, if◌then◌else◌}
use Rattle.ck_int.specs.declared.kinds.IntKind.{IntKind}
use Rattle.ck_int.specs.declared.kinds.IntKind.TheVariants as int
use Rattle.ck_int.specs.declared.kinds.IntOp.{IntOp}
use Rattle.ck_int.specs.declared.kinds.IntOp.TheVariants as op
use Rattle.ck_int.specs.declared.kinds.CmpOp.{CmpOp}
use Rattle.ck_int.specs.declared.kinds.CmpOp.TheVariants as test
use Rattle.ck_int.specs.Kinds.{form_of, width_of, is_signed}
use Rattle.rv_instr.specs.declared.instr.Instr.{Instr}
use Rattle.rv_instr.specs.declared.instr.Instr.TheVariants.{Imm, Shift, Op}
use Rattle.rv_instr.specs.declared.ops.ImmOp.{ImmOp}
use Rattle.rv_instr.specs.declared.ops.ImmOp.TheVariants.{Addi, Slti, Sltiu, Xori, Ori, Andi, Addiw}
use Rattle.rv_instr.specs.declared.ops.ShiftOp.{ShiftOp}
use Rattle.rv_instr.specs.declared.ops.ShiftOp.TheVariants.{Slli, Srli, Srai, Slliw, Sraiw}
use Rattle.rv_instr.specs.declared.ops.RegOp.{RegOp}
use Rattle.rv_instr.specs.declared.ops.RegOp.TheVariants.{Xor, Sltu, Remu}
use Rattle.cap_machine.specs.Integers.{extended}
use Rattle.cheri_c_sem.specs.Types.{is_shift}
use Rattle.tac_ir.specs.Costs.{is_wide}
use Rattle.tac_ir.specs.declared.code.TacInstr.{TacInstr}
use Rattle.tac_ir.specs.declared.code.TacInstr.TheVariants as instr
use Rattle.tac_ir.specs.declared.code.TacKind.{TacKind}
use Rattle.tac_ir.specs.declared.code.TacKind.TheVariants as kind
use Rattle.select_words.specs.Integers.{reg_op, short_op, less}
use Rattle.select_words.specs.Emitted.{IsNumber}
use Rattle.select_words.specs.Forms.{OfOne, OfTwo, Other}
use Rattle.select_words.specs.Words.{Copied}
use Rattle.select_words.specs.Selecting.{Selecting}

-- ---- a register becomes another, reduced to a kind

abbrev pub shifts : ShiftOp → (r from n : ℕ) → List Instr
shifts back r from n = Shift Slli r from n ∷ Shift back r r n ∷ []

abbrev pub reduce_code : IntKind → (r from : ℕ) → List Instr
reduce_code int.Bool r from = Op Sltu r 0 from ∷ []
reduce_code int.I8 r from = shifts Srai r from 56
reduce_code int.U8 r from = Imm Andi r from (pos 255) ∷ []
reduce_code int.I16 r from = shifts Srai r from 48
reduce_code int.U16 r from = shifts Srli r from 48
reduce_code int.I32 r from = Imm Addiw r from (pos 0) ∷ []
reduce_code int.U32 r from = shifts Srli r from 32
reduce_code int.I64 r from = []
reduce_code int.U64 r from = []

-- ---- operations, at the kinds that the integer promotions leave as they are, and sums and differences at all kinds

-- Sums and differences are there at each kind: a step of a narrow variable is one at its kind. At the kinds of fewer
-- than 32 bits they are made in 32 and then reduced
abbrev pub AtKind : IntKind → IntOp → Type 0
AtKind k op.Add = Unit {0}
AtKind k op.Sub = Unit {0}
AtKind k o = 32 ≤ width_of (form_of k)

-- whether the result has its kind without being reduced; a shift by a number has it
abbrev pub is_exact_word : IntOp → (by_number : Bool) → Bool
is_exact_word op.And by_number = true
is_exact_word op.Or by_number = true
is_exact_word op.Xor by_number = true
is_exact_word op.Rem by_number = true
is_exact_word op.Shr by_number = by_number
is_exact_word o by_number = false

abbrev pub is_exact : IntKind → IntOp → (by_number : Bool) → Bool
is_exact int.U32 o by_number = is_exact_word o by_number
is_exact int.Bool o by_number = false
is_exact int.I8 o by_number = false
is_exact int.U8 o by_number = false
is_exact int.I16 o by_number = false
is_exact int.U16 o by_number = false
is_exact k o by_number = true

abbrev pub finish_code : IntKind → IntOp → (by_number : Bool) → (r : ℕ) → List Instr
finish_code k o by_number r = if is_exact k o by_number then [] else reduce_code k r r

-- The operation of two registers. The remainder of two numbers of 32 bits without a sign is the same in 64
abbrev pub selected_op : IntKind → IntOp → RegOp
selected_op int.U32 op.Rem = Remu
selected_op int.Bool o = short_op o
selected_op int.I8 o = short_op o
selected_op int.U8 o = short_op o
selected_op int.I16 o = short_op o
selected_op int.U16 o = short_op o
selected_op k o = reg_op k o

abbrev pub add_op : IntKind → ImmOp
add_op int.I64 = Addi
add_op int.U64 = Addi
add_op k = Addiw

-- that of a register and a number, where their order does not matter
abbrev pub immediate_by : IntKind → IntOp → Option ImmOp
immediate_by k op.Add = Some (add_op k)
immediate_by k op.And = Some Andi
immediate_by k op.Or = Some Ori
immediate_by k op.Xor = Some Xori
immediate_by k o = None

abbrev pub shift_by : IntKind → IntOp → ShiftOp
shift_by int.I32 op.Shl = Slliw
shift_by int.U32 op.Shl = Slliw
shift_by k op.Shl = Slli
shift_by int.I32 o = Sraiw
shift_by int.I64 o = Srai
shift_by k o = Srli

-- A word of an operand and what is read beside it, and then the result is reduced where it has to be
abbrev pub OneThen : (word : (r x : ℕ) → Instr) → (ends : ℕ → List Instr) → (r x : ℕ) → List Instr → Type 0
OneThen word ends r x words = words ≡ word r x ∷ ends r

abbrev pub TwoThen : (word : (r x y : ℕ) → Instr) → (ends : ℕ → List Instr) → (r x y : ℕ) → List Instr → Type 0
TwoThen word ends r x y words = words ≡ word r x y ∷ ends r

-- Two registers; a register and a number of 12 bits, or the negative of one that is subtracted; or a shift by a
-- number, which a product with a power of two is at 64 bits
pub data IntegerWords (s : Selecting) (o : IntOp) (k : IntKind) (to a b : ℕ) (words : List Instr) : Type 0 where
  Registers : OfTwo s to a (Other s b) (TwoThen (Op (selected_op k o)) (finish_code k o false)) words
      → IntegerWords s o k to a b words
  WithNumber : (i : ImmOp) (n : ℕ) (z : ℤ) → immediate_by k o ≡ Some i → IsNumber s b n → extended z ≡ n
      → OfOne s to a (OneThen (λ r x. Imm i r x z) (finish_code k o false)) words
      → IntegerWords s o k to a b words
  NumberWith : (i : ImmOp) (n : ℕ) (z : ℤ) → immediate_by k o ≡ Some i → IsNumber s a n → extended z ≡ n
      → OfOne s to b (OneThen (λ r x. Imm i r x z) (finish_code k o false)) words
      → IntegerWords s o k to a b words
  LessNumber : (n : ℕ) (z : ℤ) → o ≡ op.Sub → IsNumber s b n → (extended z + n) % 2 ^ 64 ≡ 0
      → OfOne s to a (OneThen (λ r x. Imm (add_op k) r x z) (finish_code k o false)) words
      → IntegerWords s o k to a b words
  Shifted : (n : ℕ) → is_shift o ≡ true → IsNumber s b n
      → OfOne s to a (OneThen (λ r x. Shift (shift_by k o) r x (n % width_of (form_of k)))
      (finish_code k o true)) words
      → IntegerWords s o k to a b words
  Times : (q : ℕ) → o ≡ op.Mul → is_wide k ≡ true → q < 31 → IsNumber s b (2 ^ q)
      → OfOne s to a (OneThen (λ r x. Shift Slli r x q) (λ r. [])) words → IntegerWords s o k to a b words
  TimesFirst : (q : ℕ) → o ≡ op.Mul → is_wide k ≡ true → q < 31 → IsNumber s a (2 ^ q)
      → OfOne s to b (OneThen (λ r x. Shift Slli r x q) (λ r. [])) words → IntegerWords s o k to a b words

abbrev pub OperationWords : Selecting → TacInstr → List Instr → Type 0
OperationWords s (instr.Int o k to a b) words = IntegerWords s o k to a b words
OperationWords s i words = ⊥

-- ---- comparisons: 1 where it holds, and else 0

abbrev pub compares_signed : TacKind → Bool
compares_signed (kind.Int k) = is_signed (form_of k)
compares_signed (kind.Cap signed) = signed

abbrev pub less_number : Bool → ImmOp
less_number true = Slti
less_number false = Sltiu

abbrev pub turn_round : ℕ → Instr
turn_round r = Imm Xori r r (pos 1)

abbrev pub is_zero : (r x : ℕ) → Instr
is_zero r x = Imm Sltiu r x (pos 1)

abbrev pub is_some : (r x : ℕ) → Instr
is_some r x = Op Sltu r 0 x

abbrev pub compare_code : CmpOp → Bool → (r x y : ℕ) → List Instr
compare_code test.Lt signed r x y = Op (less signed) r x y ∷ []
compare_code test.Gt signed r x y = Op (less signed) r y x ∷ []
compare_code test.Le signed r x y = Op (less signed) r y x ∷ turn_round r ∷ []
compare_code test.Ge signed r x y = Op (less signed) r x y ∷ turn_round r ∷ []
compare_code test.Eq signed r x y = Op Xor r x y ∷ is_zero r r ∷ []
compare_code test.Ne signed r x y = Op Xor r x y ∷ is_some r r ∷ []

-- with a number, in the forms that there are
abbrev pub compare_number : CmpOp → Bool → (z : ℤ) → (r x : ℕ) → Option (List Instr)
compare_number test.Lt signed z r x = Some (Imm (less_number signed) r x z ∷ [])
compare_number test.Ge signed z r x = Some (Imm (less_number signed) r x z ∷ turn_round r ∷ [])
compare_number test.Eq signed z r x = Some (Imm Xori r x z ∷ is_zero r r ∷ [])
compare_number test.Ne signed z r x = Some (Imm Xori r x z ∷ is_some r r ∷ [])
compare_number o signed z r x = None

-- and with 0, which no bits differ from
abbrev pub compare_zero : CmpOp → (r x : ℕ) → Option (List Instr)
compare_zero test.Eq r x = Some (is_zero r x ∷ [])
compare_zero test.Ne r x = Some (is_some r x ∷ [])
compare_zero o r x = None

pub data ComparisonWords (s : Selecting) (o : CmpOp) (k : TacKind) (to a b : ℕ)
    (words : List Instr) : Type 0 where
  Both : OfTwo s to a (Other s b) (λ r x y ws. ws ≡ compare_code o (compares_signed k) r x y) words
      → ComparisonWords s o k to a b words
  Number : (n : ℕ) (z : ℤ) → IsNumber s b n → extended z ≡ n
      → OfOne s to a (λ r x ws. Some ws ≡ compare_number o (compares_signed k) z r x) words
      → ComparisonWords s o k to a b words
  Zero : IsNumber s b 0 → OfOne s to a (λ r x ws. Some ws ≡ compare_zero o r x) words
      → ComparisonWords s o k to a b words

abbrev pub IsComparison : TacInstr → Type 0
IsComparison (instr.Cmp o k to a b) = Unit {0}
IsComparison i = ⊥

abbrev pub CompareWords : Selecting → TacInstr → List Instr → Type 0
CompareWords s (instr.Cmp o k to a b) words = ComparisonWords s o k to a b words
CompareWords s i words = ⊥

-- ---- conversions

-- each value of one kind is one of the other, in the same 64 bits
abbrev pub is_narrower : (from to : ℕ) (from_signed to_signed : Bool) → Bool
is_narrower from to from_signed to_signed =
    if Rattle.std.specs.Prelude.nat_lt from to then (if from_signed then to_signed else true)
    else (Rattle.std.specs.Prelude.◌==◌ from to) && (if from_signed then to_signed else Rattle.std.specs.Prelude.not
    to_signed)

abbrev pub is_widening : (j k : IntKind) → Bool
is_widening j int.I64 = true
is_widening j int.U64 = true
is_widening int.Bool k = true
is_widening j int.Bool = false
is_widening j k = is_narrower (width_of (form_of j)) (width_of (form_of k)) (is_signed (form_of j)) (is_signed
    (form_of k))

abbrev pub kept_code : IntKind → (r x : ℕ) → List Instr
kept_code int.I64 r x = Imm Addi r x (pos 0) ∷ []
kept_code int.U64 r x = Imm Addi r x (pos 0) ∷ []
kept_code k r x = reduce_code k r x

abbrev pub Reduces : IntKind → (r x : ℕ) → List Instr → Type 0
Reduces k r x words = words ≡ kept_code k r x

abbrev pub CopiedOr : Selecting → (to from : ℕ) → IntKind → Bool → List Instr → Type 0
CopiedOr s to from k true words = Copied s to from words
CopiedOr s to from k false words = OfOne s to from (Reduces k) words

abbrev pub ConversionBy : Selecting → (to from : ℕ) → TacKind → TacKind → List Instr → Type 0
ConversionBy s to from old (kind.Cap signed) words = Copied s to from words
ConversionBy s to from (kind.Cap signed) (kind.Int k) words = OfOne s to from (Reduces k) words
ConversionBy s to from (kind.Int j) (kind.Int k) words = CopiedOr s to from k (is_widening j k) words

abbrev pub IsConversion : TacInstr → Type 0
IsConversion (instr.Convert to from old new) = Unit {0}
IsConversion i = ⊥

abbrev pub ConversionWords : Selecting → TacInstr → List Instr → Type 0
ConversionWords s (instr.Convert to from old new) words = ConversionBy s to from old new words
ConversionWords s i words = ⊥
