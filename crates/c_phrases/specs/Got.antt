-- What the reading functions answer.
use Rattle.std.specs.Prelude.{◌≡◌, ℕ, ◌+◌, ◌*◌, ◌^◌, ◌≤◌, ◌<◌, Bool, false, not, ◌&&◌, List, [], ◌∷◌, ◌++◌, length}
use Rattle.std.specs.Prelude.{Option, Some, None, option_map, Result, MatchResult}
use Rattle.ck_base.specs.Tokens.{Lexeme}
use Rattle.c_tree.specs.declared.syntax.Node.{Node}
use Rattle.c_tree.specs.declared.syntax.NodeKind.{NodeKind}
use Rattle.c_tree.specs.declared.syntax.Symbol.{Symbol}
use Rattle.c_tree.specs.Syntax.{Syn, Syns, node, joined, own_token, first_token, height, highest, StandsAt, StandAt}
use Rattle.c_tree.specs.Symbols.{symbol}
use Rattle.c_tree.specs.Grammar.{declared_names}
use Rattle.c_tree.specs.Grammar as Grammar
use Rattle.c_phrases.specs.declared.items.Place.{Place}
use Rattle.c_phrases.specs.declared.cursor.Root.{Root}
use Rattle.c_phrases.specs.declared.cursor.Part.{Part}
use Rattle.c_phrases.specs.declared.cursor.Parts.{Parts}
use Rattle.c_phrases.specs.declared.cursor.Cursor.{Cursor}
use Rattle.c_phrases.specs.declared.cursor.Mark.{Mark}
use Rattle.c_phrases.specs.declared.cursor.Mark.TheVariants as Marks
use Rattle.c_phrases.specs.declared.cursor.Stop.{Stop}
use Rattle.c_phrases.specs.declared.cursor.Stop.TheVariants.{NoMemory, NoTree}
use Rattle.c_phrases.specs.declared.names.Naming.{Naming}
use Rattle.c_phrases.specs.declared.names.Naming.TheVariants as Namings
use Rattle.c_phrases.specs.declared.names.TypeNames.{TypeNames}
use Rattle.c_phrases.specs.Reading.{◌>>=◌, Names, Parsed, ParsedParts, is_open_parenthesis, is_close_parenthesis}
use Rattle.c_phrases.specs.Reading.{is_open_bracket, is_close_bracket, is_open_brace, is_close_brace, is_comma}
use Rattle.c_phrases.specs.Reading.{is_semicolon, is_colon, is_star, is_equals, is_else, is_while, is_text}
use Rattle.c_phrases.specs.Reading.{opens_parameters, parts_of}

-- where a token stands
pub record IsPlaceOf (place : Place) (t : Lexeme) : Type 0 where
  pub pos : place.pos ≡ t.pos
  pub text : place.text ≡ t.span

-- whether a symbol is the one that is looked for
abbrev pub is_mark : Mark → Symbol → Bool
is_mark Marks.OpenParenthesis s = is_open_parenthesis s
is_mark Marks.CloseParenthesis s = is_close_parenthesis s
is_mark Marks.OpenBracket s = is_open_bracket s
is_mark Marks.CloseBracket s = is_close_bracket s
is_mark Marks.OpenBrace s = is_open_brace s
is_mark Marks.CloseBrace s = is_close_brace s
is_mark Marks.Comma s = is_comma s
is_mark Marks.Semicolon s = is_semicolon s
is_mark Marks.Colon s = is_colon s
is_mark Marks.Star s = is_star s
is_mark Marks.Equals s = is_equals s
is_mark Marks.Else s = is_else s
is_mark Marks.While s = is_while s
is_mark Marks.Text s = is_text s
is_mark Marks.Word s = Grammar.is_word s

abbrev pub naming_of : Naming → Grammar.Naming
naming_of Namings.Plain = Grammar.Plain
naming_of Namings.Any = Grammar.Any
naming_of Namings.Nameless = Grammar.Nameless
naming_of Namings.Either = Grammar.Either

-- a parenthesis that a declarator stands in
abbrev pub encloses : Grammar.Naming → Names → List Lexeme → Bool
encloses m types [] = false
encloses m types (t ∷ ts) =
    is_open_parenthesis (symbol t) && not (Grammar.may_be_nameless m && opens_parameters types ts)

-- the names in force, the latest first
unfoldable pub in_force : TypeNames → Names
in_force types = types

abbrev pub some_name : Option (List ℕ) → List (List ℕ)
some_name None = []
some_name (Some name) = name ∷ []

abbrev pub names_of : Root → List (List ℕ)
names_of root = some_name (option_map (λ name. name.now) root.name)

abbrev pub kind_of : Syn → NodeKind
kind_of (node k t xs) = k

-- what is said of a tree's root
pub record Describes (root : Root) (x : Syn) : Type 0 where
  pub kind : root.kind ≡ kind_of x
  pub own : IsPlaceOf root.own (own_token x)
  pub first : IsPlaceOf root.first (first_token x)
  pub names : names_of root ≡ declared_names x

-- the part stands for the tree x
pub record Means (nodes : List Node) (part : Part) (x : Syn) : Type 0 where
  pub stands : StandsAt nodes part.number x
  pub tall : part.height ≡ height x
  pub root : Describes part.root x

-- the parts stand for these trees
pub record Holds (nodes : List Node) (parts : Parts) (xs : Syns) : Type 0 where
  pub stands : StandAt nodes parts.kids.items xs
  pub tall : parts.height ≡ highest xs

-- a list of nodes that only grew
pub record Grows (old new : List Node) : Type 0 where
  pub added : List Node
  pub grown : new ≡ old ++ added

-- one more node, over parts that stood
pub record Made (old new : List Node) (root : Root) (parts : Parts) (part : Part) : Type 0 where
  pub grows : Grows old new
  pub means : (t : Lexeme) (xs : Syns) → Describes root (node root.kind t xs) → Holds old parts xs →
      Means new part (node root.kind t xs)

-- one more node, whose own token is t, and which declares nothing
pub record Joined (old new : List Node) (kind : NodeKind) (t : Lexeme) (first : Place) (parts : Parts) (part : Part) :
    Type 0 where
  pub grows : Grows old new
  pub means : (xs : Syns) → IsPlaceOf first (first_token (node kind t xs)) → declared_names (node kind t xs) ≡ [] →
      Holds old parts xs → Means new part (node kind t xs)

-- the tokens that are left
abbrev pub rest_of : Cursor → List Lexeme
rest_of cursor = cursor.left

-- what was read
pub record Got (old new : Cursor) (read : Parsed) (part : Part) : Type 0 where
  pub tree : Syn
  pub means : Means new.nodes.items part tree
  pub reads : read ≡ Some (tree, rest_of new)
  pub grows : Grows old.nodes.items new.nodes.items

pub record GotParts (old new : Cursor) (read : ParsedParts) (parts : Parts) : Type 0 where
  pub trees : Syns
  pub holds : Holds new.nodes.items parts trees
  pub reads : read ≡ Some (trees, rest_of new)
  pub grows : Grows old.nodes.items new.nodes.items

-- nothing was read, unless memory ran out
abbrev pub Fails : {A : Type 0} → Stop → Option A → Type 0
Fails NoMemory read = Unit {0}
Fails NoTree read = read ≡ None

-- what a function answers that reads so
abbrev pub Reads : Cursor → Cursor → Parsed → Result Part Stop → Type 0
Reads old new read result = MatchResult result (λ part. Got old new read part) (λ e. Fails e read)

abbrev pub ReadsParts : Cursor → Cursor → ParsedParts → Result Parts Stop → Type 0
ReadsParts old new read result = MatchResult result (λ parts. GotParts old new read parts) (λ e. Fails e read)

-- there is room for the nodes of all tokens that are left
abbrev pub IsRoomy : Cursor → Type 0
IsRoomy cursor = length cursor.nodes.items + 8 * length (rest_of cursor) < 2 ^ 31

-- what is read behind trees that stand before it
abbrev pub after : Syns → ParsedParts → ParsedParts
after ys read = read >>= λ a. Some (joined ys a.0, a.1)

-- Each token pays for eight nodes, and what is read leaves some of that over.
pub record Paid (old new : Cursor) (over : ℕ) : Type 0 where
  pub room : length new.nodes.items + 8 * length (rest_of new) + over ≤ length old.nodes.items
      + 8 * length (rest_of old)
  pub shorter : length (rest_of new) < length (rest_of old)
  pub grows : length old.nodes.items ≤ length new.nodes.items

-- The same of what may read nothing, behind a token that was taken before.
pub record Owed (old new : Cursor) (debt : ℕ) : Type 0 where
  pub room : length new.nodes.items + 8 * length (rest_of new) ≤ length old.nodes.items + 8 * length (rest_of old)
      + debt
  pub shorter : length (rest_of new) ≤ length (rest_of old)
  pub grows : length old.nodes.items ≤ length new.nodes.items

-- What the phrases answer that are no single trees

-- a part that may be missing
pub data MeansOption (nodes : List Node) : Option Part → Option Syn → Type 0 where
  missing : MeansOption nodes None None
  there : {part : Part} {x : Syn} → Means nodes part x → MeansOption nodes (Some part) (Some x)

pub record GotOptional (old new : Cursor) (read : ParsedParts) (part : Option Part) : Type 0 where
  pub tree : Option Syn
  pub means : MeansOption new.nodes.items part tree
  pub reads : read ≡ Some (parts_of tree, rest_of new)
  pub grows : Grows old.nodes.items new.nodes.items

pub record GotCore (old new : Cursor) (read : Option (Option Syn × List Lexeme)) (part : Option Part) : Type 0 where
  pub tree : Option Syn
  pub means : MeansOption new.nodes.items part tree
  pub reads : read ≡ Some (tree, rest_of new)
  pub grows : Grows old.nodes.items new.nodes.items

-- Parts that were read one by one so far, of those that a function gives with the tokens behind them
pub record RunsOn (reads : List Lexeme → Syns × List Lexeme) (old now : Cursor) (parts : Parts) : Type 0 where
  pub trees : Syns
  pub holds : Holds now.nodes.items parts trees
  pub same : reads (rest_of old) ≡ (joined trees (reads (rest_of now)).0, (reads (rest_of now)).1)
  pub grows : Grows old.nodes.items now.nodes.items
