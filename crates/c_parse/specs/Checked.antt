-- What is known of a file whose tokens were all read once.
use Rattle.std.specs.Prelude.{◌≡◌, ℕ, ◌≤◌, List, ◌++◌, length, Option, Some, None}
use Rattle.ck_base.specs.declared.positions.Pos.{Pos}
use Rattle.ck_base.specs.Tokens.{Lexeme}
use Rattle.ck_base.specs.Lexes.{Reads}
use Rattle.c_tree.specs.Brackets.{excess, excess_from}
use Rattle.c_tree.specs.File.{IsCut}
use Rattle.c_parse.specs.Turns.{gap}
use Rattle.c_parse.specs.declared.files.Brackets.{Brackets}

-- a place that was found before, or what is found later
abbrev pub first_of : Option Pos → Option Pos → Option Pos
first_of (Some place) later = Some place
first_of None later = later

-- the brackets are those of these tokens
pub record Counts (brackets : Brackets) (ts : List Lexeme) : Type 0 where
  pub goes : (rest : List Lexeme) →
      excess (ts ++ rest) ≡ first_of brackets.deep (excess_from (gap brackets.opened brackets.closed) rest)
  pub opened : brackets.opened ≤ length ts
  pub closed : brackets.closed ≤ length ts

-- these are the first tokens of the file, up to a place
pub record HasRead (file : List ℕ) (at : ℕ) (tokens : List Lexeme) : Type 0 where
  pub few : length tokens ≤ at
  pub within : at ≤ length file
  pub reads : Reads file 0 tokens at

-- these are the tokens of the file, which break no rule, and no bracket stands too deep
pub record IsChecked (file : List ℕ) (tokens : List Lexeme) : Type 0 where
  pub cut : IsCut file tokens
  pub few : length tokens ≤ 4_194_304
