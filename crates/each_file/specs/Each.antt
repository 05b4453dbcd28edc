-- What each file is: a program, or refused.
use Rattle.std.specs.Prelude.{ℕ, ◌⊎◌, List}
use Rattle.ck_base.specs.declared.positions.Pos.{Pos}
use Rattle.ck_base.specs.Tokens.{Lexeme}
use Rattle.c_tree.specs.declared.typed.Typed.{Typed}
use Rattle.c_tree.specs.Syntax.{Syn}
use Rattle.c_tree.specs.Typing.{RefusesSyntax}
use Rattle.c_tree.specs.File.{IsRead}
use Rattle.accepted_files.specs.Accepted.{Accepts, Refused}
use Rattle.typing_laws.specs.Codes.{IsTypingCode}

-- it is accepted, as some program
abbrev pub IsAccepted : List ℕ → Type 0
IsAccepted bytes = (p : Typed) × Accepts bytes p

-- it is refused, by a code at a place
abbrev pub IsRefused : List ℕ → Type 0
IsRefused bytes = (code : ℕ) × (place : Pos) × Refused bytes code place

-- A file is accepted or refused, and not both; and where it is the typing of its syntax that refuses it, this is by 130
-- to 136 or 140
pub record EachFile (bytes : List ℕ) : Type 0 where
  pub either : IsAccepted bytes ⊎ IsRefused bytes
  pub apart : IsAccepted bytes → IsRefused bytes → ⊥
  pub typing : (tokens : List Lexeme) (x : Syn) (code : ℕ) (place : Pos) → IsRead bytes tokens x →
      RefusesSyntax x code place → IsTypingCode code
