-- What is appended for instructions, while their jumps lead nowhere yet: the words are those of the whole code but for
-- the offsets of jumps, of which is noted where they are to lead. A line is noted for each word that may trap.
use Rattle.std.specs.Prelude.{◌≡◌, ◌+◌, pos, List, [], ◌∷◌, length}
use Rattle.tac_ir.specs.declared.code.TacInstr.{TacInstr}
use Rattle.select_words.specs.Selecting.{Selecting}
use Rattle.rv_emit.specs.Growing.{Size, Puts, marking, jumping, calling, trapping}
use Rattle.rv_idioms.specs.Copies.{Twice}
use Rattle.rv_select.specs.Selected.{Ways, WordsOf}

abbrev pub noting : (old new : Size) → Ways
noting old new = record {
  Jumps = λ l skip z. (z ≡ pos 0) × (new.links ≡ jumping old.links (length old.text + skip) l);
  Calls = λ fun skip z. (z ≡ pos 0) × (new.links ≡ calling old.links (length old.text + skip) fun);
  Traps = λ skip place. new.links ≡ trapping old.links (length old.text + skip) place 0;
  TrapsTwice = λ skip first second. Twice old new first second skip;
  Labels = λ l. new.links ≡ marking old.links (length old.text) l;
  Passes = new.links ≡ old.links;
}

-- for one instruction
abbrev pub Selects : Selecting → TacInstr → (old new : Size) → Type 0
Selects s i old new = Puts (WordsOf (noting old new) s i) old new

-- and for instructions one after another
abbrev pub SelectsAll : Selecting → List TacInstr → (old new : Size) → Type 0
SelectsAll s [] old new = (new.text ≡ old.text) × (new.links ≡ old.links)
SelectsAll s (i ∷ is) old new = (mid : Size) × Selects s i old mid × SelectsAll s is mid new
