-- Copies of structs, of whose words two may trap.
use Rattle.std.specs.Prelude.{◌≡◌, ℕ, ◌+◌, List, ◌++◌, length}
use Rattle.ck_base.specs.declared.positions.Pos.{Pos}
use Rattle.rv_instr.specs.declared.instr.Instr.{Instr}
use Rattle.select_words.specs.Copying.{copy_loop}
use Rattle.rv_emit.specs.Growing.{Size, IsWordNumber, both_trapping}

-- two words, the first of them so far behind the text
abbrev pub Twice : (old new : Size) → (first second : Pos) → (skip : ℕ) → Type 0
Twice old new first second skip = new.links ≡ both_trapping old.links (length old.text + skip) first second

-- a loop over so many units
pub record RoundWords (TrapsTwice : (skip : ℕ) → Type 0) (units unit : ℕ) (words : List Instr) : Type 0 where
  pub number : List Instr
  pub makes : IsWordNumber 30 units number
  pub reports : TrapsTwice (length number)
  pub are : words ≡ number ++ copy_loop unit
