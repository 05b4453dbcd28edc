-- What the loops over phrases keep.
use Rattle.std.specs.Prelude.{◌≡◌, ℕ, suc, ◌+◌, ◌≤◌, List, length, Some, if◌then◌else◌}
use Rattle.ck_base.specs.Tokens.{Lexeme}
use Rattle.c_tree.specs.Syntax.{Syn, Syns, height}
use Rattle.c_tree.specs.Grammar.{Goal}
use Rattle.c_phrases.specs.declared.cursor.Cursor.{Cursor}
use Rattle.c_phrases.specs.declared.cursor.Part.{Part}
use Rattle.c_phrases.specs.declared.cursor.Parts.{Parts}
use Rattle.c_phrases.specs.declared.steps.Step.{Step}
use Rattle.c_phrases.specs.Reading.{Names, ParsedParts, Reader, climb, read, list_of, separated, goes_on_listing, past}
use Rattle.c_phrases.specs.Got.{Means, Holds, Grows, rest_of, after}
use Rattle.c_phrases.specs.Steps.{run}

-- the reading that began at the tree x goes on at the part
pub record Climbs (old now : Cursor) (below l : ℕ) (types : Names) (x : Syn) (part : Part) : Type 0 where
  pub tree : Syn
  pub means : Means now.nodes.items part tree
  pub turns : ℕ
  pub enough : suc (suc below) ≤ turns + height tree
  pub same : climb (read below) (suc below) (suc (suc below)) l types x (rest_of old)
      ≡ climb (read below) (suc below) turns l types tree (rest_of now)
  pub grows : Grows old.nodes.items now.nodes.items

-- the steps that are left read the rest of what all of them read
pub record Produces (old now : Cursor) (below : ℕ) (types : Names) (steps left : List Step) (ys : Syns)
    (parts : Parts) : Type 0 where
  pub trees : Syns
  pub holds : Holds now.nodes.items parts trees
  pub same : run (read below) steps ys types (rest_of old) ≡ run (read below) left trees types (rest_of now)
  pub grows : Grows old.nodes.items now.nodes.items

-- a list behind the trees zs
abbrev pub list_behind : Reader → ℕ → Goal → Names → Syns → List Lexeme → ParsedParts
list_behind rec k g types zs ts =
    if goes_on_listing ts then after zs (separated rec k g types (past ts)) else Some (zs, ts)

pub record Lists (old now : Cursor) (below : ℕ) (g : Goal) (types : Names) (ys : Syns) (parts : Parts) : Type 0 where
  pub trees : Syns
  pub holds : Holds now.nodes.items parts trees
  pub turns : ℕ
  pub enough : length (rest_of now) ≤ turns
  pub same : after ys (list_of (read below) g types (rest_of old))
      ≡ list_behind (read below) turns g types trees (rest_of now)
  pub grows : Grows old.nodes.items now.nodes.items
