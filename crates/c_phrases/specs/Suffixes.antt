-- Declarators that go on behind what stands before their suffixes (C11 6.7.6).
use Rattle.std.specs.Prelude.{◌≡◌, ℕ, suc, ◌+◌, ◌≤◌, ◌<◌, List, [], ◌∷◌, Option, Some, None, if◌then◌else◌}
use Rattle.ck_base.specs.Tokens.{Lexeme}
use Rattle.c_tree.specs.declared.syntax.NodeKind.{NodeKind}
use Rattle.c_tree.specs.Syntax.{Syn, first_of_parts, highest}
use Rattle.c_tree.specs.Symbols.{symbol}
use Rattle.c_tree.specs.Grammar.{names_of_first}
use Rattle.c_phrases.specs.declared.cursor.Cursor.{Cursor}
use Rattle.c_phrases.specs.declared.cursor.Part.{Part}
use Rattle.c_phrases.specs.declared.cursor.Root.{Root}
use Rattle.c_phrases.specs.declared.cursor.Stop.{Stop}
use Rattle.c_phrases.specs.declared.cursor.Stop.TheVariants.{NoMemory, NoTree}
use Rattle.c_phrases.specs.Reading.{◌>>=◌, Names, Parsed, Reader, is_open_bracket, is_open_parenthesis, parts_of}
use Rattle.c_phrases.specs.Reading.{array_from, function_from, suffixes, read}
use Rattle.c_phrases.specs.Got.{IsPlaceOf, MeansOption, Grows, Paid, names_of, rest_of}

-- the height of a part that may be missing
abbrev pub height_of : Option Part → ℕ
height_of None = 0
height_of (Some part) = part.height

-- what is said of the root of a suffix behind x, whatever parts follow in its brackets
pub record BeginsSuffix (root : Root) (k : NodeKind) (t : Lexeme) (x : Option Syn) : Type 0 where
  pub kind : root.kind ≡ k
  pub own : IsPlaceOf root.own t
  pub first : IsPlaceOf root.first (first_of_parts t (parts_of x))
  pub names : names_of root ≡ names_of_first (parts_of x)

-- a suffix behind x would be too high, unless memory ran out
abbrev pub IsTooHigh : Stop → ℕ → Option Syn → Type 0
IsTooHigh NoMemory below x = Unit {0}
IsTooHigh NoTree below x = below < highest (parts_of x)

module _ (rec : Reader) (h : ℕ) where
  -- the next suffix behind x, or nothing where none begins
  abbrev pub next_from : Option Syn → Names → List Lexeme → Option (Option Syn × List Lexeme)
  next_from x types [] = Some (None, [])
  next_from x types (o ∷ ts) =
      if is_open_bracket (symbol o) then (array_from rec h x o types ts >>= λ b. Some (Some b.0, b.1))
      else (if is_open_parenthesis (symbol o) then (function_from rec h x o types ts >>= λ b. Some (Some b.0, b.1))
      else Some (None, o ∷ ts))

  -- a declarator of x and at most k - 1 suffixes
  abbrev pub suffixed : ℕ → Names → Option Syn → List Lexeme → Parsed
  suffixed k types x ts = suffixes rec h k types x ts >>= λ b. b.0 >>= λ y. Some (y, b.1)

-- the reading that began at x goes on at the part
pub record Suffixes (old now : Cursor) (below : ℕ) (types : Names) (x : Option Syn) (part : Option Part) : Type 0 where
  pub tree : Option Syn
  pub means : MeansOption now.nodes.items part tree
  pub turns : ℕ
  pub enough : suc (suc below) ≤ turns + highest (parts_of tree)
  pub same : suffixes (read below) (suc below) (suc (suc below)) types x (rest_of old)
      ≡ suffixes (read below) (suc below) turns types tree (rest_of now)
  pub grows : Grows old.nodes.items now.nodes.items

-- either no suffix was read yet, or those that were leave something over
pub data HasPaid (old now : Cursor) (start part : Option Part) : Type 0 where
  unmoved : part ≡ start → rest_of now ≡ rest_of old → now.nodes.items ≡ old.nodes.items → HasPaid old now start part
  moved : Paid old now 4 → HasPaid old now start part
