-- A C file is accepted as a typed program, or refused by the first rule that it breaks.
use Rattle.std.specs.Prelude.{◌≡◌, ℕ, ◌<◌, ◌≤◌, List, length, Some, ◌⊎◌}
use Rattle.ck_base.specs.declared.positions.Pos.{Pos}
use Rattle.ck_base.specs.Tokens.{Lexeme}
use Rattle.ck_base.specs.Lexes.{Lexes}
use Rattle.ck_base.specs.Lexes as lexing
use Rattle.c_tree.specs.declared.typed.Typed.{Typed}
use Rattle.c_tree.specs.Brackets.{height_limit, excess}
use Rattle.c_tree.specs.Syntax.{Syn, height}
use Rattle.c_tree.specs.Parses.{DerivesFile}
use Rattle.c_tree.specs.Weight.{weight}
use Rattle.c_tree.specs.TreeWeight.{HasLightFunctions}
use Rattle.c_tree.specs.File.{file_limit, HasRoom, IsCut, IsRead, IsTokenPlace}
use Rattle.c_tree.specs.Typing.{TypesSyntax, RefusesSyntax, Alike}

-- ---- the weight of a file

abbrev pub weight_limit : ℕ
weight_limit = 250000

-- no function is too heavy, nor are all together
pub record IsLight (p : Typed) : Type 0 where
  pub each : HasLightFunctions p
  pub all : weight p ≤ weight_limit

-- ---- accepted files

pub record Accepts (bytes : List ℕ) (p : Typed) : Type 0 where
  pub tokens : List Lexeme
  pub syntax : Syn
  pub reads : IsRead bytes tokens syntax
  pub types : TypesSyntax syntax p
  pub room : HasRoom p
  pub light : IsLight p

-- ---- refused files

abbrev pub beginning : Pos
beginning = record { line = 1; col = 1 }

-- The first rule that a file breaks, by its code, and where: the rules stand in their order, and each holds where those
-- before it do not apply
pub data Refused (bytes : List ℕ) : ℕ → Pos → Type 0 where
  too_long : file_limit < length bytes → Refused bytes 143 beginning
  lexical : {code : ℕ} {place : Pos} → length bytes ≤ file_limit → lexing.Refuses bytes code place →
      Refused bytes code place
  brackets : {place : Pos} (tokens : List Lexeme) → length bytes ≤ file_limit → Lexes bytes tokens →
      excess tokens ≡ Some place → Refused bytes 121 place
  no_tree : {place : Pos} (tokens : List Lexeme) → IsCut bytes tokens →
      ((x : Syn) → DerivesFile tokens x → height x ≤ height_limit → ⊥) → IsTokenPlace bytes tokens place →
      Refused bytes 120 place
  typing : {code : ℕ} {place : Pos} (tokens : List Lexeme) (x : Syn) → IsRead bytes tokens x →
      RefusesSyntax x code place → Refused bytes code place
  room : (tokens : List Lexeme) (x : Syn) (p : Typed) → IsRead bytes tokens x → TypesSyntax x p → (HasRoom p → ⊥) →
      Refused bytes 141 beginning
  too_heavy : (tokens : List Lexeme) (x : Syn) (p : Typed) → IsRead bytes tokens x → TypesSyntax x p → HasRoom p →
      (IsLight p → ⊥) → Refused bytes 142 beginning

-- ---- one answer

-- what the calls that cut and read a file show: a file is cut into tokens or refused in one way, and tokens have one
-- syntax at most
pub record ReadsOnce (bytes : List ℕ) : Type 0 where
  pub tokens : (a b : List Lexeme) → Lexes bytes a → Lexes bytes b → a ≡ b
  pub unrefused : (a : List Lexeme) (code : ℕ) (place : Pos) → Lexes bytes a → lexing.Refuses bytes code place → ⊥
  pub refused : (c d : ℕ) (p q : Pos) → lexing.Refuses bytes c p → lexing.Refuses bytes d q → (c ≡ d) × (p ≡ q)
  pub syntax : (a : List Lexeme) (x y : Syn) → DerivesFile a x → DerivesFile a y → x ≡ y

-- A file is at most one program, whatever the numbers of its nodes and types, or is refused by at most one code, at one
-- place but for 120, and never both
pub record OneFile (bytes : List ℕ) : Type 0 where
  pub accepted : (p q : Typed) → Accepts bytes p → Accepts bytes q → Alike p q
  pub refused : (c d : ℕ) (p q : Pos) → Refused bytes c p → Refused bytes d q → (c ≡ d) × ((c ≡ 120) ⊎ (p ≡ q))
  pub apart : (p : Typed) (c : ℕ) (q : Pos) → Accepts bytes p → Refused bytes c q → ⊥
