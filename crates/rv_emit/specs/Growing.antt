-- The code that selection makes, as it grows.
use Rattle.std.specs.Prelude.{◌≡◌, ℕ, ◌+◌, ◌*◌, ◌%◌, ◌^◌, ◌<◌, ◌≤◌, Bool, true, List, [], ◌∷◌, ◌++◌, length}
use Rattle.std.specs.Prelude.{slice_index}
use Rattle.std.specs.List.{All}
use Rattle.ck_base.specs.declared.positions.Pos.{Pos}
use Rattle.rv_instr.specs.Range.{InRange}
use Rattle.rv_instr.specs.declared.instr.Instr.{Instr}
use Rattle.elf_file.specs.declared.image.Line.{Line}
use Rattle.elf_file.specs.Image.{lines_ok}
use Rattle.tac_ir.specs.Costs.{number_cost}
use Rattle.select_words.specs.Numbers.{MakesNumber}
use Rattle.rv_words.specs.declared.jumps.Jump.{Jump}
use Rattle.rv_words.specs.declared.jumps.Mark.{Mark}
pub use Rattle.rv_words.specs.Instructions.{reach, seals}

-- Each instruction has a word, and the lines ascend strictly and stand in the code
pub record IsText (code : List Instr) (places : List Line) : Type 0 where
  pub in_range : All InRange code
  pub lines : lines_ok 0 (4 * length code) places ≡ true

-- places in a text of so many words, in bytes: whole words of it, each behind those before it
pub record AreEntries (words : ℕ) (entries : List ℕ) : Type 0 where
  pub whole : (k : ℕ) → k < length entries → slice_index entries k % 4 ≡ 0
  pub inside : (k : ℕ) → k < length entries → slice_index entries k < 4 * words
  pub ascend : (j k : ℕ) → j < k → k < length entries → slice_index entries j < slice_index entries k

-- ---- what is seen of it

-- What is noted of words: the labels of the function at hand, the jumps to them, the calls, where functions are
-- entered, in bytes, and the places in the source of the words that may trap; and whether the calls are far ones,
-- which take what they call from the table, and are not noted
pub record Links : Type 0 where
  pub marks : List Mark
  pub jumps : List Jump
  pub calls : List Jump
  pub entered : List ℕ
  pub lines : List Line
  pub far : Bool

-- the number of its words, the words, what leads elsewhere, and the word with which the loop at hand begins
pub record Size : Type 0 where
  pub words : ℕ
  pub text : List Instr
  pub links : Links
  pub top : ℕ

-- a label stands before a word
abbrev pub marking : Links → (at label : ℕ) → Links
marking c at l = record c { marks = c.marks ++ (record { label = l; at = at }) ∷ [] }

-- a word jumps to a label, or calls a function
abbrev pub jumping : Links → (at label : ℕ) → Links
jumping c at l = record c { jumps = c.jumps ++ (record { at = at; to = l }) ∷ [] }

abbrev pub calling : Links → (at fun : ℕ) → Links
calling c at f = record c { calls = c.calls ++ (record { at = at; to = f }) ∷ [] }

-- a word may trap, which is reported at a place in the source: of kind 0 for an access or a call, and 1 for the first
-- store of a prologue
abbrev pub line_at : (at : ℕ) → Pos → (kind : ℕ) → Line
line_at at pos kind = record { at = 4 * at; line = pos.line; col = pos.col; kind = kind }

abbrev pub trapping : Links → (at : ℕ) → Pos → (kind : ℕ) → Links
trapping c at pos kind = record c { lines = c.lines ++ line_at at pos kind ∷ [] }

-- two words may, one behind the other
abbrev pub both_trapping : Links → (at : ℕ) → (first second : Pos) → Links
both_trapping c at first second = trapping (trapping c at first 0) (at + 1) second 0

-- a function is entered at the next word
abbrev pub entering : Size → Links
entering c = record (c.links) { entered = c.links.entered ++ 4 * length c.text ∷ [] }

-- the function at hand has ended
abbrev pub ended : Size → Links
ended c = record (c.links) { marks = []; jumps = [] }

-- No word is taken back, at most so many are added, and none of them leads elsewhere
abbrev pub Grows : (most : ℕ) (old new : Size) → Type 0
Grows most old new = (old.words ≤ new.words) × (new.words ≤ old.words + most) × (new.links ≡ old.links)

-- some may, but no function is entered
abbrev pub Extends : (most : ℕ) (old new : Size) → Type 0
Extends most old new =
    (old.words ≤ new.words) × (new.words ≤ old.words + most) × (new.links.entered ≡ old.links.entered)

-- so many words are added, and none of them leads elsewhere
abbrev pub Adds : (count : ℕ) (old new : Size) → Type 0
Adds count old new = (new.words ≡ old.words + count) × (new.links ≡ old.links)

-- at most so many words are added, one at least, and one function is entered
abbrev pub Enters : (most : ℕ) (old new : Size) → Type 0
Enters most old new =
    (old.words < new.words) × (new.words ≤ old.words + most)
    × (length new.links.entered ≡ length old.links.entered + 1)

-- words of such a kind are added
pub record Puts (Words : List Instr → Type 0) (old new : Size) : Type 0 where
  pub added : List Instr
  pub is : new.text ≡ old.text ++ added
  pub are : Words added

-- those of a number, of 32 bits or of any
pub record IsWordNumber (to value : ℕ) (words : List Instr) : Type 0 where
  pub makes : MakesNumber to value words
  pub few : length words ≤ 2

pub record IsLongNumber (to value : ℕ) (words : List Instr) : Type 0 where
  pub makes : MakesNumber to value words
  pub few : length words ≤ number_cost value

-- the words that a text has at most, so that 32 bits hold its places
abbrev pub room : ℕ
room = 2 ^ 29
