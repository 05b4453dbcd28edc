-- What the loops over members and specifiers keep.
use Rattle.std.specs.Prelude.{◌≡◌, ℕ, suc, ◌+◌, ◌*◌, ◌≤◌, ◌<◌, false, List, length, Some, if◌then◌else◌, nat_lt}
use Rattle.ck_base.specs.Tokens.{Lexeme}
use Rattle.c_tree.specs.Syntax.{Syns}
use Rattle.c_phrases.specs.declared.cursor.Cursor.{Cursor}
use Rattle.c_phrases.specs.declared.cursor.Parts.{Parts}
use Rattle.c_phrases.specs.declared.steps.Gathered.{Gathered}
use Rattle.c_phrases.specs.Reading.{Names, ParsedParts, Reader, read, members, specifier_list, starts, is_close_brace}
use Rattle.c_phrases.specs.Got.{Holds, Grows, rest_of, after}
use Rattle.c_phrases.specs.Steps.{IsGathered}

-- Each of so many parts leaves seven nodes of those that its first token pays for.
pub record Spared (old new : Cursor) (parts : ℕ) : Type 0 where
  pub room : length new.nodes.items + 8 * length (rest_of new) + 7 * parts ≤ length old.nodes.items
      + 8 * length (rest_of old)
  pub shorter : length (rest_of new) + parts ≤ length (rest_of old)
  pub grows : length old.nodes.items ≤ length new.nodes.items

-- members behind the trees zs, before a closing brace
abbrev pub members_behind : Reader → ℕ → Names → Syns → List Lexeme → ParsedParts
members_behind rec k types zs ts = if starts is_close_brace ts then Some (zs, ts) else after zs (members rec k types ts)

-- the reading of at most k members goes on at the parts
pub record Fills (old now : Cursor) (below k : ℕ) (types : Names) (ys : Syns) (parts : Parts) : Type 0 where
  pub trees : Syns
  pub holds : Holds now.nodes.items parts trees
  pub turns : ℕ
  pub enough : length (rest_of now) < turns
  pub same : after ys (members (read below) k types (rest_of old))
      ≡ members_behind (read below) turns types trees (rest_of now)
  pub grows : Grows old.nodes.items now.nodes.items

-- the reading of specifiers goes on behind those that are gathered
pub record Gathers (old now : Cursor) (below : ℕ) (types : Names) (g : Gathered) : Type 0 where
  pub trees : Syns
  pub holds : Holds now.nodes.items g.parts trees
  pub gathered : IsGathered g trees
  pub turns : ℕ
  pub enough : length (rest_of now) < turns
  pub same : specifier_list (read below) (suc (length (rest_of old))) false types (rest_of old)
      ≡ after trees (specifier_list (read below) turns (nat_lt 0 g.type_names) types (rest_of now))
  pub grows : Grows old.nodes.items now.nodes.items
