-- The words by which parameters come to their homes.
use Rattle.std.specs.Prelude.{◌≡◌, ℕ, zero, suc, ◌+◌, ◌-◌, ◌*◌, ◌<◌, ◌≤◌, ◌⊎◌, ◌==◌, if◌then◌else◌, min, List, [], ◌∷◌}
use Rattle.std.specs.Prelude.{◌++◌, length}
use Rattle.rv_instr.specs.declared.instr.Instr.{Instr}
use Rattle.rv_instr.specs.declared.instr.Instr.TheVariants.{CapGet}
use Rattle.rv_instr.specs.declared.ops.CapGetOp.TheVariants.{Cmove}
use Rattle.purecap_abi.specs.Words.{load_code, store_code}
use Rattle.select_words.specs.Emitted.{IsIn, IsSpilled}
use Rattle.select_words.specs.Selecting.{Selecting}

-- ---- moves among registers

-- where a register comes from by a word, and by words one after another
abbrev pub before_move : Instr → ℕ → ℕ
before_move (CapGet Cmove to from) r = if r == to then from else r
before_move i r = r

unfoldable pub moved_from : List Instr → ℕ → ℕ
moved_from [] r = r
moved_from (i ∷ is) r = before_move i (moved_from is r)

-- moves to registers of a kind
abbrev pub IsMoveTo : (ℕ → Type 0) → Instr → Type 0
IsMoveTo Is (CapGet Cmove to from) = Is to
IsMoveTo Is i = ⊥

abbrev pub AreMovesTo : (ℕ → Type 0) → List Instr → Type 0
AreMovesTo Is [] = Unit {0}
AreMovesTo Is (i ∷ is) = IsMoveTo Is i × AreMovesTo Is is

-- ---- the words of parameters

-- where an argument past eight stands, from the caller's stack on
abbrev pub stack_place : ℕ → ℕ
stack_place k = 16 + 16 * (k - 8)

-- what the words do for each of so many, from a number on
abbrev pub ForEach : (ℕ → List Instr → Type 0) → (k count : ℕ) → List Instr → Type 0
ForEach Words k zero words = words ≡ []
ForEach Words k (suc n) words =
    (first : List Instr) × (rest : List Instr) × Words k first × ForEach Words (k + 1) n rest × (words ≡ first ++ rest)

-- one of the first eight goes to its slot; of those whose home is a register nothing is done yet
pub data SlotWords (s : Selecting) (k : ℕ) (words : List Instr) : Type 0 where
  Later : (r : ℕ) → IsIn s k r → words ≡ [] → SlotWords s k words
  Stored : (offset : ℕ) → IsSpilled s k offset → words ≡ store_code (10 + k) 2 offset 29 → SlotWords s k words

-- one past eight comes from the caller's frame, by c28
pub data StackWords (s : Selecting) (k : ℕ) (words : List Instr) : Type 0 where
  Loaded : (r : ℕ) → IsIn s k r → words ≡ load_code r 28 (stack_place k) 29 → StackWords s k words
  Spilled : (offset : ℕ) → IsSpilled s k offset
      → words ≡ load_code 30 28 (stack_place k) 29 ++ store_code 30 2 offset 31 → StackWords s k words

-- a register that the moves may write: the home of one of the first parameters, or c30
abbrev pub MayGet : Selecting → (count r : ℕ) → Type 0
MayGet s count r = (r ≡ 30) ⊎ ((k : ℕ) × (k < min count 8) × IsIn s k r)

pub record ParameterWords (s : Selecting) (count : ℕ) (words : List Instr) : Type 0 where
  pub stores : List Instr
  pub moves : List Instr
  pub loads : List Instr
  pub stored : ForEach (SlotWords s) 0 (min count 8) stores
  pub own : AreMovesTo (MayGet s count) moves
  pub moved : (k r : ℕ) → k < min count 8 → IsIn s k r → moved_from moves r ≡ 10 + k
  pub loaded : ForEach (StackWords s) 8 (count - 8) loads
  pub few : length stores + length moves ≤ 3 * min count 8
  pub are : words ≡ stores ++ (moves ++ loads)
