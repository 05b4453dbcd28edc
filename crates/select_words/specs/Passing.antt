-- The words by which arguments come to their places: eight to registers, and the others to the frame.
use Rattle.std.specs.Prelude.{◌≡◌, ℕ, ◌+◌, ◌-◌, ◌*◌, ◌<◌, ◌≤◌, ◌⊎◌, min, List, [], ◌++◌, length, Some, slice_get}
use Rattle.rv_instr.specs.declared.instr.Instr.{Instr}
use Rattle.purecap_abi.specs.Words.{store_code}
use Rattle.select_words.specs.Emitted.{IsIn, Operand}
use Rattle.select_words.specs.Entries.{stack_place, ForEach, AreMovesTo, moved_from}
use Rattle.select_words.specs.Services.{IsAside}
use Rattle.select_words.specs.Words.{Bring}
use Rattle.select_words.specs.Selecting.{Selecting}

-- one past eight is stored in the frame, from where it is found
pub record StackedWords (s : Selecting) (args : List ℕ) (k : ℕ) (words : List Instr) : Type 0 where
  pub temp : ℕ
  pub is : slice_get args k ≡ Some temp
  pub r : ℕ
  pub finds : List Instr
  pub found : Operand s temp 28 finds r
  pub are : words ≡ finds ++ store_code r 2 (stack_place k) 29

-- a register in which arguments are passed
abbrev pub IsPassing : ℕ → Type 0
IsPassing r = (10 ≤ r) × (r ≤ 17)

-- one of the first eight that stands in such a register was moved; any other is brought
pub data BroughtWords (s : Selecting) (args : List ℕ) (k : ℕ) (words : List Instr) : Type 0 where
  Moved : (temp q : ℕ) → slice_get args k ≡ Some temp → IsIn s temp q → IsPassing q → words ≡ []
      → BroughtWords s args k words
  Brought : (temp : ℕ) → slice_get args k ≡ Some temp → ((q : ℕ) → IsIn s temp q → IsAside q)
      → Bring s temp (10 + k) words → BroughtWords s args k words

-- what the moves may write: such registers, and c28
abbrev pub MayCarry : ℕ → Type 0
MayCarry r = IsPassing r ⊎ (r ≡ 28)

pub record ArgumentWords (s : Selecting) (args : List ℕ) (words : List Instr) : Type 0 where
  pub stores : List Instr
  pub moves : List Instr
  pub brings : List Instr
  pub stacked : ForEach (StackedWords s args) 8 (length args - 8) stores
  pub own : AreMovesTo MayCarry moves
  pub moved : (k temp q : ℕ) → k < 8 → slice_get args k ≡ Some temp → IsIn s temp q → IsPassing q
      → moved_from moves (10 + k) ≡ q
  pub brought : ForEach (BroughtWords s args) 0 (min (length args) 8) brings
  pub few : length moves + length brings ≤ 3 * min (length args) 8
  pub are : words ≡ stores ++ (moves ++ brings)
