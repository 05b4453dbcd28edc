-- The words that selection appends for instructions, instruction by instruction.
use Rattle.std.specs.Prelude.{◌≡◌, ◌≢◌, ℕ, ◌^◌, ◌<◌, ◌≤◌, List, [], ◌∷◌, ◌++◌, length, None}
use Rattle.purecap_abi.specs.Words.{load_code}
use Rattle.rv_instr.specs.declared.instr.Instr.{Instr}
use Rattle.rv_instr.specs.declared.instr.Instr.TheVariants.{CapGet}
use Rattle.rv_instr.specs.declared.ops.CapGetOp.TheVariants.{Cmove}
use Rattle.tac_ir.specs.Costs.{number_cost}
use Rattle.tac_ir.specs.declared.code.TacInstr.{TacInstr}
use Rattle.tac_ir.specs.declared.code.TacInstr.TheVariants as instr
use Rattle.select_words.specs.Numbers.{MakesNumber}
use Rattle.select_words.specs.Emitted.{IsNumber, IsIn, IsSpilled, Operand, Target, Keep}
use Rattle.select_words.specs.Selecting.{Selecting}

-- ---- constants

-- A temp that is the number needs no words; another gets it in the register for it
pub data Constant (s : Selecting) (to value : ℕ) (words : List Instr) : Type 0 where
  Needless : IsNumber s to value → words ≡ [] → Constant s to value words
  Built : s.numbers to ≡ None → (r : ℕ) → Target s to r → (makes keep : List Instr) → MakesNumber r value makes
      → length makes ≤ number_cost value → Keep s to r keep → words ≡ makes ++ keep → Constant s to value words

-- an integer, or null with an address
abbrev pub IsConst : TacInstr → Type 0
IsConst (instr.Const to k v) = Unit {0}
IsConst i = ⊥

abbrev pub ConstantWords : Selecting → TacInstr → List Instr → Type 0
ConstantWords s (instr.Const to k v) words = (v < 2 ^ 64) × Constant s to v words
ConstantWords s i words = ⊥

-- ---- copies

-- What brings a temp to a register that is a home
pub data Bring (s : Selecting) (t r : ℕ) (words : List Instr) : Type 0 where
  Made : (value : ℕ) → IsNumber s t value → MakesNumber r value words → length words ≤ 2 → Bring s t r words
  There : IsIn s t r → words ≡ [] → Bring s t r words
  Moved : (q : ℕ) → IsIn s t q → q ≢ r → words ≡ CapGet Cmove r q ∷ [] → Bring s t r words
  Loaded : (offset : ℕ) → IsSpilled s t offset → words ≡ load_code r 2 offset r → Bring s t r words

-- To itself there is nothing to do; to a register the other is brought; else it is kept from where it is found
pub data Copied (s : Selecting) (to from : ℕ) (words : List Instr) : Type 0 where
  Itself : to ≡ from → words ≡ [] → Copied s to from words
  Brought : (r : ℕ) → IsIn s to r → Bring s from r words → Copied s to from words
  Kept : (offset : ℕ) → IsSpilled s to offset → (a : ℕ) (finds keep : List Instr) → Operand s from 28 finds a
      → Keep s to a keep → words ≡ finds ++ keep → Copied s to from words

abbrev pub IsCopy : TacInstr → Type 0
IsCopy (instr.Copy to from) = Unit {0}
IsCopy i = ⊥

abbrev pub CopyWords : Selecting → TacInstr → List Instr → Type 0
CopyWords s (instr.Copy to from) words = Copied s to from words
CopyWords s i words = ⊥

-- ---- labels, and what passes

abbrev pub IsPassed : TacInstr → Type 0
IsPassed (instr.Label l) = Unit {0}
IsPassed i = ⊥

abbrev pub NoWords : Selecting → TacInstr → List Instr → Type 0
NoWords s i words = words ≡ []
