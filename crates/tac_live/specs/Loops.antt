-- Loops, and the blocks of those that meet. Numbers count instructions from 1, and 0 is the entry.
use Rattle.std.specs.Prelude.{◌≡◌, ℕ, suc, ◌<◌, ◌≤◌, List, Option, Some, length, slice_index}
use Rattle.tac_ir.specs.Intervals.{IsAt, IsLoop}
use Rattle.tac_ir.specs.declared.code.TacInstr.{TacInstr}
use Rattle.tac_ir.specs.declared.code.TacInstr.TheVariants as instr

-- where labels stand, of those up to a number
pub record ArePlaces (code : List TacInstr) (upto : ℕ) (place : ℕ → Option ℕ) : Type 0 where
  pub sound : (l p : ℕ) → place l ≡ Some p → (p ≤ upto) × IsAt code p (instr.Label l)
  pub complete : (l p : ℕ) → IsAt code p (instr.Label l) → p ≤ upto → place l ≡ Some p

-- for each number the end of the longest loop that begins there, of those that end up to a number, or itself
pub record AreReaches (code : List TacInstr) (upto : ℕ) (reach : List ℕ) : Type 0 where
  pub len : length reach ≡ suc upto
  pub onward : (n : ℕ) → n ≤ upto → n ≤ slice_index reach n
  pub bound : (n : ℕ) → slice_index reach n ≤ upto
  pub loops : (n : ℕ) → n < slice_index reach n → IsLoop code n (slice_index reach n)
  pub longest : (from to : ℕ) → IsLoop code from to → to ≤ upto → to ≤ slice_index reach from

-- how far the loops reach that begin up to a number
pub record IsTop (reach : List ℕ) (n top : ℕ) : Type 0 where
  pub above : (m : ℕ) → m ≤ n → slice_index reach m ≤ top
  pub reached : (m : ℕ) × (m ≤ n) × (slice_index reach m ≡ top)

abbrev pub AreTops : List ℕ → List ℕ → Type 0
AreTops reach tops = (n : ℕ) → n < length tops → IsTop reach n (slice_index tops n)

-- no loop goes on behind the instruction before the first of a block, and one goes on behind each from there to n
pub record IsStart (tops : List ℕ) (n first : ℕ) : Type 0 where
  pub upto : first ≤ n
  pub cut : (k : ℕ) → suc k ≡ first → slice_index tops k ≤ k
  pub joined : (k : ℕ) → first ≤ k → k < n → k < slice_index tops k

-- no loop goes on behind the last instruction of a block, and one goes on behind each from n to there
pub record IsEnd (tops : List ℕ) (n last : ℕ) : Type 0 where
  pub from : n ≤ last
  pub within : last < length tops
  pub cut : slice_index tops last ≤ last
  pub joined : (k : ℕ) → n ≤ k → k < last → k < slice_index tops k

abbrev pub AreStarts : List ℕ → List ℕ → Type 0
AreStarts tops starts = (n : ℕ) → n < length starts → IsStart tops n (slice_index starts n)

abbrev pub AreEnds : List ℕ → List ℕ → Type 0
AreEnds tops ends = (n : ℕ) → n < length ends → IsEnd tops n (slice_index ends n)

-- a range that holds each loop that it meets
abbrev pub IsClosed : List TacInstr → (first last : ℕ) → Type 0
IsClosed code first last = (from to : ℕ) → IsLoop code from to → from ≤ last → first ≤ to → (first ≤ from) × (to ≤ last)

-- The least such range around an instruction, which no loop enters or leaves
pub record IsBlock (code : List TacInstr) (n first last : ℕ) : Type 0 where
  pub starts : first ≤ n
  pub ends : n ≤ last
  pub enters : (from to : ℕ) → IsLoop code from to → first ≤ to → first ≤ from
  pub leaves : (from to : ℕ) → IsLoop code from to → from ≤ last → to ≤ last
  pub least : (first' last' : ℕ) → IsClosed code first' last' → first' ≤ n → n ≤ last' →
      (first' ≤ first) × (last ≤ last')

-- the blocks around the instructions
pub record AreBlocks (code : List TacInstr) (starts ends : List ℕ) : Type 0 where
  pub starts_len : length starts ≡ suc (length code)
  pub ends_len : length ends ≡ suc (length code)
  pub blocks : (n : ℕ) → n ≤ length code → IsBlock code n (slice_index starts n) (slice_index ends n)
