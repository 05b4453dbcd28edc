-- What the front end answers of a file: the typed program that it is, or the first rule that it breaks.
use Rattle.std.specs.Prelude.{ℕ, ◌≤◌, List, length, ⊤}
use Rattle.ck_base.specs.declared.positions.Pos.{Pos}
use Rattle.ck_base.specs.Tokens.{Lexeme}
use Rattle.ck_base.specs.declared.refusal.Refusal.{Refusal}
use Rattle.ck_base.specs.declared.refusal.Refusal.TheVariants.{Code, NoMemory}
use Rattle.c_tree.specs.declared.typed.Typed.{Typed}
use Rattle.c_tree.specs.File.{file_limit, IsRead}
use Rattle.accepted_files.specs.Accepted.{Refused, room, too_heavy}
use Rattle.c_tree.specs.Syntax.{Syn}
use Rattle.c_tree.specs.Typing.{TypesSyntax}

-- The file's syntax is this typed program; its room and its weight are not looked at
pub record IsTyped (file : List ℕ) (p : Typed) : Type 0 where
  pub tokens : List Lexeme
  pub syntax : Syn
  pub reads : IsRead file tokens syntax
  pub types : TypesSyntax syntax p

-- the rule is none of the limits that stand behind the typing
abbrev pub IsBeforeLimits : {file : List ℕ} {code : ℕ} {place : Pos} → Refused file code place → Type 0
IsBeforeLimits (room tokens x p reads types none) = ⊥
IsBeforeLimits (too_heavy tokens x p reads types has heavy) = ⊥
IsBeforeLimits rule = ⊤

-- The first rule that a file breaks, up to its typing; want of memory is free, but for a file that is too long
abbrev pub IsBroken : List ℕ → Refusal → Type 0
IsBroken file (Code code place) = (rule : Refused file code place) × IsBeforeLimits rule
IsBroken file NoMemory = length file ≤ file_limit
