-- Parameters, and the moves by which they come to their homes.
use Rattle.std.specs.Prelude.{◌≡◌, ◌≢◌, ◌⊎◌, ℕ, ◌+◌, ◌*◌, ◌<◌, ◌≤◌, List, length}
use Rattle.std.specs.List.{Contains}
use Rattle.select_words.specs.Emitted.{IsIn, IsSpilled}
use Rattle.select_words.specs.Entries.{ForEach, SlotWords}
use Rattle.select_words.specs.Selecting.{Selecting}
use Rattle.select_words.specs.Services.{IsAside}
use Rattle.rv_instr.specs.declared.instr.Instr.{Instr}
use Rattle.rv_select.specs.declared.function.Function.{Function}
use Rattle.rv_idioms.specs.declared.moves.Move.{Move}
use Rattle.rv_select.specs.Choosing.{chosen, Chooses, Stands}

-- Words are chosen for a parameter that is no number, and stands in the register in which it comes or in none of those
-- in which arguments come
pub record TakesParameter (f : Function) (k : ℕ) : Type 0 where
  pub chooses : Chooses f k
  pub stands : Stands (chosen f) k
  pub passed : (r : ℕ) → IsIn (chosen f) k r → (r ≡ 10 + k) ⊎ IsAside r

-- and for so many, for which a frame has places, and which have homes of their own
pub record TakesParameters (f : Function) (params : ℕ) : Type 0 where
  pub few : params ≤ 4194304
  pub each : (k : ℕ) → k < params → TakesParameter f k
  pub apart : (j k r : ℕ) → j < params → k < params → IsIn (chosen f) j r → IsIn (chosen f) k r → j ≡ k

-- ---- moves

-- a parameter comes from its register to its home elsewhere
pub record Brings (s : Selecting) (count : ℕ) (m : Move) : Type 0 where
  pub number : ℕ
  pub below : number < count
  pub from : m.from ≡ 10 + number
  pub to : IsIn s number m.to
  pub elsewhere : m.to ≢ m.from

-- the moves of so many parameters, which are of the first eight
pub record AreMoved (s : Selecting) (count : ℕ) (moves : List Move) : Type 0 where
  pub each : (m : Move) → Contains moves m → Brings s count m
  pub all : (k r : ℕ) → k < count → IsIn s k r → r ≢ 10 + k → Contains moves (record { from = 10 + k; to = r })

-- ---- words

-- one of the first eight is stored, or its move is noted
pub record Settles (s : Selecting) (k : ℕ) (old new : List Move) (words : List Instr) : Type 0 where
  pub slot : SlotWords s k words
  pub few : length words + length new ≤ length old + 3
  pub moved : AreMoved s k old → AreMoved s (k + 1) new

-- so many of them
pub record AreSettled (s : Selecting) (count : ℕ) (moves : List Move) (words : List Instr) : Type 0 where
  pub slots : ForEach (SlotWords s) 0 count words
  pub few : length words + length moves ≤ 3 * count
  pub moved : AreMoved s count moves

-- where one past eight is loaded to: its home, or c30
abbrev pub IsLoadedTo : Selecting → (k r : ℕ) → Type 0
IsLoadedTo s k r = IsIn s k r ⊎ ((r ≡ 30) × (at : ℕ) × IsSpilled s k at)
