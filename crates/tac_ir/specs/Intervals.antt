-- Where a temp is live. Instructions count from 1, and 0 is the function's entry, which counts as an instruction.
use Rattle.std.specs.Prelude.{◌≡◌, ℕ, suc, ◌≤◌, ◌<◌, Bool, true, false, List, Some, slice_get}
use Rattle.tac_ir.specs.Temps.{IsIn, reads, names, goes_to}
use Rattle.tac_ir.specs.declared.code.TacFun.{TacFun}
use Rattle.tac_ir.specs.declared.code.TacInstr.{TacInstr}
use Rattle.tac_ir.specs.declared.code.TacInstr.TheVariants as instr

-- instruction number n of some code
abbrev pub IsAt : List TacInstr → ℕ → TacInstr → Type 0
IsAt code n i = (k : ℕ) × (n ≡ suc k) × (slice_get code k ≡ Some i)

-- instruction number n names a temp; it reads it
abbrev pub NamesAt : List TacInstr → ℕ → ℕ → Type 0
NamesAt code t n = (i : TacInstr) × IsAt code n i × IsIn t (names i)

abbrev pub ReadsAt : List TacInstr → ℕ → ℕ → Type 0
ReadsAt code t n = (i : TacInstr) × IsAt code n i × IsIn t (reads i)

-- a label, jump or branch
abbrev pub is_control : TacInstr → Bool
is_control (instr.Label l) = true
is_control (instr.Jump l) = true
is_control (instr.Branch on when l) = true
is_control i = false

-- the range from a label to a jump or branch to it that is not earlier
pub record IsLoop (code : List TacInstr) (from to : ℕ) : Type 0 where
  pub label : ℕ
  pub jump : TacInstr
  pub starts : IsAt code from (instr.Label label)
  pub ends : IsAt code to jump
  pub jumps : IsIn label (goes_to jump)
  pub ordered : from ≤ to

-- A temp that isn't a parameter, that no instruction reads unless an earlier one names it, and with no label, jump or
-- branch strictly between two instructions that name it
pub record IsStraight (f : TacFun) (t : ℕ) : Type 0 where
  pub no_parameter : f.params ≤ t
  pub written_first : (n : ℕ) → ReadsAt f.code t n → (m : ℕ) × (m < n) × NamesAt f.code t m
  pub undivided : (m n to : ℕ) (i : TacInstr) → NamesAt f.code t m → NamesAt f.code t to → m < n → n < to →
      IsAt f.code n i → is_control i ≡ false

-- A range that holds each instruction that names a temp, begins at entry for a parameter, and holds every loop that it
-- meets unless the temp is straight
pub record Covers (f : TacFun) (t : ℕ) (first last : ℕ) : Type 0 where
  pub at_entry : t < f.params → first ≡ 0
  pub named : (n : ℕ) → NamesAt f.code t n → (first ≤ n) × (n ≤ last)
  pub loops : (IsStraight f t → ⊥) → (from to : ℕ) → IsLoop f.code from to → from ≤ last → first ≤ to →
      (first ≤ from) × (to ≤ last)

-- a temp that no instruction names, and that isn't a parameter
pub record IsUnused (f : TacFun) (t : ℕ) : Type 0 where
  pub no_parameter : f.params ≤ t
  pub unnamed : (n : ℕ) → NamesAt f.code t n → ⊥

-- The live interval: the least such range; of an unused temp the one from 1 to 0, which holds no instruction
pub record IsLive (f : TacFun) (t : ℕ) (first last : ℕ) : Type 0 where
  pub covers : Covers f t first last
  pub least : (IsUnused f t → ⊥) → (first' last' : ℕ) → Covers f t first' last' → (first' ≤ first) × (last ≤ last')
  pub unused : IsUnused f t → (first ≡ 1) × (last ≡ 0)
