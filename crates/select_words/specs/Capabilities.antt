-- The words of instructions that make capabilities.
use Rattle.std.specs.Prelude.{◌≡◌, ℕ, ◌-◌, ◌*◌, ◌^◌, ◌<◌, ◌≤◌, ℤ, Bool, true, false, List, [], ◌∷◌, ◌++◌, length}
use Rattle.std.specs.Prelude.{Option, Some, None, if◌then◌else◌, ◌+◌}
use Rattle.purecap_abi.specs.Words.{load_code, moved_code}
use Rattle.rv_instr.specs.declared.instr.Instr.{Instr}
use Rattle.rv_instr.specs.declared.instr.Instr.TheVariants.{CapImm, CapReg, CapGet}
use Rattle.rv_instr.specs.declared.ops.CapImmOp.TheVariants.{Cincoffsetimm}
use Rattle.rv_instr.specs.declared.ops.CapRegOp.{CapRegOp}
use Rattle.rv_instr.specs.declared.ops.CapRegOp.TheVariants.{Csetbounds, Csetboundsexact, Candperm, Csetaddr}
use Rattle.rv_instr.specs.declared.ops.CapRegOp.TheVariants.{Cincoffset, Csetequalexact}
use Rattle.rv_instr.specs.declared.ops.CapGetOp.{CapGetOp}
use Rattle.rv_instr.specs.declared.ops.CapGetOp.TheVariants.{Cgetperm, Cgetbase, Cgetlen, Cgettag, Cgetoffset, Crrl}
use Rattle.rv_instr.specs.declared.ops.CapGetOp.TheVariants.{Cram, Ccleartag}
use Rattle.cap_machine.specs.Integers.{extended}
use Rattle.obj_mem.specs.declared.map.Frame.{Frame}
use Rattle.obj_mem.specs.declared.map.Slot.{Slot}
use Rattle.obj_mem.specs.Legal.{slot_of}
use Rattle.tac_ir.specs.declared.code.Amount.{Amount}
use Rattle.tac_ir.specs.declared.code.Amount.TheVariants as amount
use Rattle.tac_ir.specs.declared.code.CapWork.{CapWork}
use Rattle.tac_ir.specs.declared.code.CapWork.TheVariants as cap
use Rattle.tac_ir.specs.declared.code.TacInstr.{TacInstr}
use Rattle.tac_ir.specs.declared.code.TacInstr.TheVariants as instr
use Rattle.select_words.specs.Numbers.{MakesNumber}
use Rattle.select_words.specs.Emitted.{IsNumber}
use Rattle.select_words.specs.Forms.{Makes, OfOne, OfTwo, Other, Amounts}
use Rattle.select_words.specs.Selecting.{Selecting}

-- ---- narrowing

abbrev pub exact_op : Bool → CapRegOp
exact_op true = Csetboundsexact
exact_op false = Csetbounds

-- one word of two registers
abbrev pub OneOfTwo : CapRegOp → (r a b : ℕ) → List Instr → Type 0
OneOfTwo op r a b words = words ≡ CapReg op r a b ∷ []

abbrev pub IsNarrow : TacInstr → Type 0
IsNarrow (instr.Narrow to base length exact) = Unit {0}
IsNarrow i = ⊥

abbrev pub NarrowWords : Selecting → TacInstr → List Instr → Type 0
NarrowWords s (instr.Narrow to base length exact) words =
    OfTwo s to base (Amounts s length) (OneOfTwo (exact_op exact)) words
NarrowWords s i words = ⊥

-- ---- moves

-- a number that 12 bits hold is an immediate
abbrev pub Advance : (n : ℕ) → (r a : ℕ) → List Instr → Type 0
Advance n r a words = (z : ℤ) × (extended z ≡ n) × (words ≡ CapImm Cincoffsetimm r a z ∷ [])

pub data Offsets (s : Selecting) (to base : ℕ) (by : Amount) (words : List Instr) : Type 0 where
  Far : OfTwo s to base (Amounts s by) (OneOfTwo Cincoffset) words → Offsets s to base by words
  Near : (n : ℕ) → by ≡ amount.Number n → OfOne s to base (Advance n) words → Offsets s to base by words
  NearTemp : (t n : ℕ) → by ≡ amount.Temp t → IsNumber s t n → OfOne s to base (Advance n) words
      → Offsets s to base by words

abbrev pub IsOffset : TacInstr → Type 0
IsOffset (instr.Offset to base by) = Unit {0}
IsOffset i = ⊥

abbrev pub OffsetWords : Selecting → TacInstr → List Instr → Type 0
OffsetWords s (instr.Offset to base by) words = Offsets s to base by words
OffsetWords s i words = ⊥

-- ---- intrinsics

-- of one register, or of two
pub data Intrinsic : Type 0 where
  One : CapGetOp → Intrinsic
  Two : CapRegOp → Intrinsic

abbrev pub intrinsic_of : CapWork → Intrinsic
intrinsic_of cap.Base = One Cgetbase
intrinsic_of cap.Offset = One Cgetoffset
intrinsic_of cap.Length = One Cgetlen
intrinsic_of cap.Tag = One Cgettag
intrinsic_of cap.Perms = One Cgetperm
intrinsic_of cap.Clear = One Ccleartag
intrinsic_of cap.SetAddress = Two Csetaddr
intrinsic_of cap.AndPerms = Two Candperm
intrinsic_of cap.EqualExact = Two Csetequalexact
intrinsic_of cap.Rounded = One Crrl
intrinsic_of cap.Mask = One Cram

abbrev pub OneOfOne : CapGetOp → (r a : ℕ) → List Instr → Type 0
OneOfOne op r a words = words ≡ CapGet op r a ∷ []

-- where there is no second operand, x0 stands for it
abbrev pub Seconds : Selecting → Option ℕ → List Instr → ℕ → Type 0
Seconds s None words b = (words ≡ []) × (b ≡ 0)
Seconds s (Some t) words b = Other s t words b

abbrev pub IntrinsicWords : Selecting → (to a : ℕ) → Option ℕ → Intrinsic → List Instr → Type 0
IntrinsicWords s to a b (One op) words = OfOne s to a (OneOfOne op) words
IntrinsicWords s to a b (Two op) words = OfTwo s to a (Seconds s b) (OneOfTwo op) words

abbrev pub IsIntrinsic : TacInstr → Type 0
IsIntrinsic (instr.Cap op to a b) = Unit {0}
IsIntrinsic i = ⊥

abbrev pub CapWords : Selecting → TacInstr → List Instr → Type 0
CapWords s (instr.Cap op to a b) words = IntrinsicWords s to a b (intrinsic_of op) words
CapWords s i words = ⊥

-- ---- pointers to objects

-- The stack's capability is moved to the object, and then narrowed to its length
pub record Local (at long : ℕ) (r : ℕ) (words : List Instr) : Type 0 where
  pub number : List Instr
  pub small : long < 2 ^ 31
  pub makes : MakesNumber 29 long number
  pub few : length number ≤ 2
  pub are : words ≡ moved_code r 2 at ++ (number ++ (CapReg Csetboundsexact r r 29 ∷ []))

-- a local has its slot in the frame
pub record LocalWords (s : Selecting) (to var : ℕ) (words : List Instr) : Type 0 where
  pub frame : Frame
  pub is : s.frame ≡ Some frame
  pub slot : Slot
  pub has : slot_of frame var ≡ Some slot
  pub makes : Makes s to (Local slot.at slot.length) words

-- an entry of the table, which two instructions reach
abbrev pub Entry : (offset r : ℕ) → List Instr → Type 0
Entry offset r words = words ≡ load_code r 3 offset r

abbrev pub EntryWords : Selecting → (to entry : ℕ) → List Instr → Type 0
EntryWords s to entry words = (16 * entry < 2 ^ 31 - 2048) × Makes s to (Entry (16 * entry)) words

abbrev pub IsPointing : TacInstr → Type 0
IsPointing (instr.Local to var) = Unit {0}
IsPointing (instr.Global to number literal) = Unit {0}
IsPointing (instr.Function to f) = Unit {0}
IsPointing i = ⊥

abbrev pub PointingWords : Selecting → TacInstr → List Instr → Type 0
PointingWords s (instr.Local to var) words = LocalWords s to var words
PointingWords s (instr.Global to number literal) words =
    EntryWords s to (if literal then s.literals + number else number) words
PointingWords s (instr.Function to f) words = EntryWords s to (s.functions + f) words
PointingWords s i words = ⊥
