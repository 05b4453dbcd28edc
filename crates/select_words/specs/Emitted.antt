-- The words that selection appends for temps: those that bring an operand to a register, and those that keep a
-- register as a temp.
use Rattle.std.specs.Prelude.{◌≡◌, ◌≢◌, ℕ, ◌+◌, ◌*◌, ◌≤◌, List, [], ◌∷◌, length, Some, None, slice_get}
use Rattle.obj_mem.specs.declared.map.Frame.{Frame}
use Rattle.purecap_abi.specs.Saving.{slots_at}
use Rattle.purecap_abi.specs.Words.{load_code, store_code}
use Rattle.reg_alloc.specs.declared.places.Home.TheVariants.{Register, Slot}
use Rattle.rv_instr.specs.declared.instr.Instr.{Instr}
use Rattle.rv_instr.specs.declared.instr.Instr.TheVariants.{CapGet}
use Rattle.rv_instr.specs.declared.ops.CapGetOp.TheVariants.{Cmove}
use Rattle.select_words.specs.Numbers.{MakesNumber}
use Rattle.select_words.specs.Selecting.{Selecting}

-- ---- where temps stand

-- a temp that is a number has no home
abbrev pub IsNumber : Selecting → (t value : ℕ) → Type 0
IsNumber s t value = s.numbers t ≡ Some value

pub record IsIn (s : Selecting) (t r : ℕ) : Type 0 where
  pub stands : s.numbers t ≡ None
  pub home : slice_get s.homes t ≡ Some (Register r)

-- its slot stands at this offset in the frame
pub record IsSpilled (s : Selecting) (t offset : ℕ) : Type 0 where
  pub stands : s.numbers t ≡ None
  pub slot : ℕ
  pub home : slice_get s.homes t ≡ Some (Slot slot)
  pub frame : Frame
  pub is : s.frame ≡ Some frame
  pub there : offset ≡ slots_at s.homes frame + 16 * slot

-- ---- words

-- The register that holds a temp: x0 for 0, its home, or else the scratch register behind words that make or load it
pub data Operand (s : Selecting) (t scratch : ℕ) (words : List Instr) (r : ℕ) : Type 0 where
  Nothing : IsNumber s t 0 → words ≡ [] → r ≡ 0 → Operand s t scratch words r
  Made : (value : ℕ) → IsNumber s t value → MakesNumber scratch value words → length words ≤ 2 → r ≡ scratch
      → Operand s t scratch words r
  AtHome : IsIn s t r → words ≡ [] → Operand s t scratch words r
  Loaded : (offset : ℕ) → IsSpilled s t offset → words ≡ load_code scratch 2 offset scratch → r ≡ scratch
      → Operand s t scratch words r

-- the register in which a temp is computed: its home, or c28
pub data Target (s : Selecting) (t r : ℕ) : Type 0 where
  Own : IsIn s t r → Target s t r
  Number : (value : ℕ) → IsNumber s t value → r ≡ 28 → Target s t r
  Spilled : (offset : ℕ) → IsSpilled s t offset → r ≡ 28 → Target s t r

-- A register is kept as a temp: a number needs no words, and a slot is reached by c31
pub data Keep (s : Selecting) (t from : ℕ) (words : List Instr) : Type 0 where
  Needless : (value : ℕ) → IsNumber s t value → words ≡ [] → Keep s t from words
  Stays : IsIn s t from → words ≡ [] → Keep s t from words
  Moved : (r : ℕ) → IsIn s t r → r ≢ from → words ≡ CapGet Cmove r from ∷ [] → Keep s t from words
  Stored : (offset : ℕ) → IsSpilled s t offset → words ≡ store_code from 2 offset 31 → Keep s t from words
