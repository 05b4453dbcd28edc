-- How an operation on integers is computed.
use Rattle.std.specs.Prelude.{◌≡◌, ℕ, ◌+◌, ◌%◌, ◌^◌, ◌<◌, ℤ, Bool, true, false, List, [], ◌∷◌, ◌++◌, Some}
use Rattle.ck_int.specs.Kinds.{form_of, width_of}
use Rattle.ck_int.specs.declared.kinds.IntKind.{IntKind}
use Rattle.ck_int.specs.declared.kinds.IntOp.{IntOp}
use Rattle.ck_int.specs.declared.kinds.IntOp.TheVariants as op
use Rattle.cap_machine.specs.Integers.{extended}
use Rattle.rv_instr.specs.Range.{count_bits}
use Rattle.rv_instr.specs.declared.instr.Instr.{Instr}
use Rattle.rv_instr.specs.declared.instr.Instr.TheVariants as word
use Rattle.rv_instr.specs.declared.ops.ImmOp.{ImmOp}
use Rattle.rv_instr.specs.declared.ops.ShiftOp.TheVariants.{Slli}
use Rattle.tac_ir.specs.Costs.{is_wide}
use Rattle.select_words.specs.Emitted.{IsNumber, Operand}
use Rattle.select_words.specs.Forms.{OfOne, OfTwo, Other}
use Rattle.select_words.specs.Operations.{selected_op, immediate_by, shift_by, add_op, OneThen, TwoThen}
use Rattle.select_words.specs.Selecting.{Selecting}
use Rattle.rv_select.specs.Choosing.{Chooses}
use Rattle.rv_select.specs.declared.function.Function.{Function}
use Rattle.rv_select.specs.declared.operations.Work.{Work}
use Rattle.rv_select.specs.declared.operations.Work.TheVariants.{Registers, Immediate, Shift}

-- ---- which operation

abbrev pub IsShift : IntOp → Type 0
IsShift op.Shl = Unit {0}
IsShift op.Shr = Unit {0}
IsShift o = ⊥

-- ---- the work

abbrev pub by_number : Work → Bool
by_number (Shift i a n) = true
by_number w = false

-- a shift multiplies by a temp
pub record IsTimes (s : Selecting) (a b : ℕ) (w : Work) : Type 0 where
  pub power : ℕ
  pub below : power < 31
  pub number : IsNumber s b (2 ^ power)
  pub is : w ≡ Shift Slli a power

-- a register and a number on either side
pub data IsWithNumber (s : Selecting) (i : ImmOp) (a b : ℕ) (w : Work) : Type 0 where
  Second : (z : ℤ) → IsNumber s b (extended z) → w ≡ Immediate i a z → IsWithNumber s i a b w
  First : (z : ℤ) → IsNumber s a (extended z) → w ≡ Immediate i b z → IsWithNumber s i a b w

-- the ways of an operation
pub data IsPlan (s : Selecting) (o : IntOp) (k : IntKind) (a b : ℕ) (w : Work) : Type 0 where
  Both : w ≡ Registers (selected_op k o) a b → IsPlan s o k a b w
  WithNumber : (i : ImmOp) → immediate_by k o ≡ Some i → IsWithNumber s i a b w → IsPlan s o k a b w
  LessNumber : (n : ℕ) (z : ℤ) → o ≡ op.Sub → IsNumber s b n → (extended z + n) % 2 ^ 64 ≡ 0
      → w ≡ Immediate (add_op k) a z → IsPlan s o k a b w
  Shifted : (n m : ℕ) → IsShift o → IsNumber s b n
      → m % 2 ^ count_bits (shift_by k o) ≡ n % width_of (form_of k) → w ≡ Shift (shift_by k o) a m
      → IsPlan s o k a b w
  Times : o ≡ op.Mul → is_wide k ≡ true → IsTimes s a b w → IsPlan s o k a b w
  TimesFirst : o ≡ op.Mul → is_wide k ≡ true → IsTimes s b a w → IsPlan s o k a b w

-- words for its operands are chosen
abbrev pub ChoosesWork : Function → Work → Type 0
ChoosesWork f (Registers i a b) = Chooses f a × Chooses f b
ChoosesWork f (Immediate i a z) = Chooses f a
ChoosesWork f (Shift i a n) = Chooses f a

-- ---- its words

-- those that find its operands, and the one that computes of them
pub record OneWord (s : Selecting) (a : ℕ) (word : (x : ℕ) → Instr) (words : List Instr) : Type 0 where
  pub x : ℕ
  pub finds : List Instr
  pub found : Operand s a 28 finds x
  pub are : words ≡ finds ++ word x ∷ []

pub record TwoWord (s : Selecting) (a b : ℕ) (word : (x y : ℕ) → Instr) (words : List Instr) : Type 0 where
  pub x : ℕ
  pub y : ℕ
  pub finds : List Instr
  pub others : List Instr
  pub found : Operand s a 28 finds x
  pub other : Other s b others y
  pub are : words ≡ finds ++ (others ++ word x y ∷ [])

abbrev pub WorkWord : Selecting → Work → (r : ℕ) → List Instr → Type 0
WorkWord s (Registers i a b) r words = TwoWord s a b (word.Op i r) words
WorkWord s (Immediate i a z) r words = OneWord s a (λ x. word.Imm i r x z) words
WorkWord s (Shift i a n) r words = OneWord s a (λ x. word.Shift i r x (n % 2 ^ count_bits i)) words

-- and then what ends it, with the result in its home
abbrev pub WorkWords : Selecting → (ends : ℕ → List Instr) → (to : ℕ) → Work → List Instr → Type 0
WorkWords s ends to (Registers i a b) words = OfTwo s to a (Other s b) (TwoThen (word.Op i) ends) words
WorkWords s ends to (Immediate i a z) words = OfOne s to a (OneThen (λ r x. word.Imm i r x z) ends) words
WorkWords s ends to (Shift i a n) words =
    OfOne s to a (OneThen (λ r x. word.Shift i r x (n % 2 ^ count_bits i)) ends) words
