-- Productions as lists of steps, and what a node is that is read by them.
use Rattle.std.specs.Prelude.{◌≡◌, ℕ, List, [], ◌∷◌, Some, ◌≤◌, min}
use Rattle.ck_base.specs.Tokens.{Lexeme}
use Rattle.c_tree.specs.declared.syntax.NodeKind.{NodeKind}
use Rattle.c_tree.specs.declared.syntax.NodeKind.TheVariants as Kinds
use Rattle.c_tree.specs.Syntax.{Syns, node, nil, more, one, own_token}
use Rattle.c_tree.specs.Grammar.{has_any, count, is_typedef_word, is_typedef_node, names_type, defines_types}
use Rattle.c_tree.specs.Grammar.{names_a_type, Naming, Goal, Expression, Declarator, Parameter, Member, Enumerator}
use Rattle.c_tree.specs.Grammar.{Initializer}
use Rattle.c_phrases.specs.declared.steps.Phrase.{Phrase}
use Rattle.c_phrases.specs.declared.steps.Phrase.TheVariants as Phrases
use Rattle.c_phrases.specs.declared.steps.Step.{Step}
use Rattle.c_phrases.specs.declared.steps.Step.TheVariants as Steps
use Rattle.c_phrases.specs.Reading.{◌>>=◌, Names, Parsed, ParsedParts, Reader, expect, is_close_brace, listed, members}
use Rattle.c_phrases.specs.Reading.{specifiers, optional_declarator, type_name}
use Rattle.c_phrases.specs.Got.{is_mark, naming_of, after, Got, GotParts}
use Rattle.c_phrases.specs.declared.cursor.Cursor.{Cursor}
use Rattle.c_phrases.specs.declared.steps.Gathered.{Gathered}
use Rattle.c_phrases.specs.declared.steps.Specified.{Specified}

abbrev pub goal_of : Phrase → Goal
goal_of (Phrases.Expression l) = Expression l
goal_of (Phrases.Declarator m) = Declarator (naming_of m)
goal_of Phrases.Parameter = Parameter
goal_of Phrases.Member = Member
goal_of Phrases.Enumerator = Enumerator
goal_of Phrases.Initializer = Initializer

-- one phrase as parts
abbrev pub alone : Parsed → ParsedParts
alone read = read >>= λ a. Some (one a.0, a.1)

module _ (rec : Reader) where
  abbrev pub follow_from : Step → Names → List Lexeme → ParsedParts
  follow_from (Steps.Read g) types ts = alone (rec (goal_of g) types ts)
  follow_from Steps.TypeName types ts = alone (type_name rec types ts)
  follow_from (Steps.Listed g) types ts = listed rec (goal_of g) types ts
  follow_from (Steps.Expect m) types ts = expect (is_mark m) ts >>= λ rest. Some (nil, rest)

  -- the steps one behind the other, behind parts that stand before them
  abbrev pub run : List Step → Syns → Names → List Lexeme → ParsedParts
  run [] ys types ts = Some (ys, ts)
  run (s ∷ ss) ys types ts = after ys (follow_from s types ts) >>= λ a. run ss a.0 types a.1

  -- a node of all these parts
  abbrev pub made_by : NodeKind → Lexeme → List Step → Syns → Names → List Lexeme → Parsed
  made_by k t ss ys types ts = run ss ys types ts >>= λ a. Some (node k t a.0, a.1)

  -- specifiers, and a declarator or nothing
  abbrev pub specified_from : NodeKind → Naming → Names → List Lexeme → Parsed
  specified_from k m types ts =
      specifiers rec types ts >>= λ s. optional_declarator rec m types s.1
      >>= λ d. Some (node k (own_token s.0) (more s.0 d.0), d.1)

  -- members and the closing brace, at most k members
  abbrev pub members_from : ℕ → Names → List Lexeme → ParsedParts
  members_from k types ts = members rec k types ts >>= λ a. expect is_close_brace a.1 >>= λ rest. Some (a.0, rest)

-- a phrase whose level is one of an expression
abbrev pub IsSmallPhrase : Phrase → Type 0
IsSmallPhrase (Phrases.Expression l) = l ≤ 15
IsSmallPhrase _ = Unit {0}

abbrev pub IsSmall : Step → Type 0
IsSmall (Steps.Read g) = IsSmallPhrase g
IsSmall (Steps.Listed g) = IsSmallPhrase g
IsSmall _ = Unit {0}

abbrev pub AreSmall : List Step → Type 0
AreSmall [] = Unit {0}
AreSmall (s ∷ ss) = IsSmall s × AreSmall ss

-- the kinds of nodes of specifiers and a declarator
abbrev pub IsSpecifying : NodeKind → Type 0
IsSpecifying Kinds.Parameter = Unit {0}
IsSpecifying Kinds.TypeName = Unit {0}
IsSpecifying _ = ⊥

-- the parts of specifiers, and what is known of them
pub record IsGathered (g : Gathered) (xs : Syns) : Type 0 where
  pub defines : g.defines ≡ has_any is_typedef_word xs
  pub typedef_name : g.typedef_name ≡ has_any is_typedef_node xs
  pub type_names : g.type_names ≡ min (count names_type xs) 4_294_967_295

pub record GotGathered (old new : Cursor) (read : ParsedParts) (g : Gathered) : Type 0 where
  pub parts : GotParts old new read g.parts
  pub gathered : IsGathered g parts.trees

pub record GotSpecified (old new : Cursor) (read : Parsed) (s : Specified) : Type 0 where
  pub part : Got old new read s.part
  pub defines : s.defines ≡ defines_types part.tree
  pub names : s.names_type ≡ names_a_type part.tree
