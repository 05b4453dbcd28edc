-- What the parser answers: the tree of a file, or the first of the rules on tokens and trees that the file breaks.
use Rattle.std.specs.Prelude.{◌≡◌, ℕ, ◌≤◌, List, length, Some, Result, MatchResult}
use Rattle.ck_base.specs.declared.positions.Pos.{Pos}
use Rattle.ck_base.specs.declared.refusal.Refusal.{Refusal}
use Rattle.ck_base.specs.declared.refusal.Refusal.TheVariants.{Code, NoMemory}
use Rattle.ck_base.specs.Tokens.{Lexeme}
use Rattle.ck_base.specs.Lexes.{Lexes, Refuses}
use Rattle.c_tree.specs.declared.syntax.Tree.{Tree}
use Rattle.c_tree.specs.Syntax.{Syn, height}
use Rattle.c_tree.specs.Parses.{DerivesFile, Parses}
use Rattle.c_tree.specs.Brackets.{height_limit, excess}
use Rattle.c_tree.specs.File.{IsCut, IsTokenPlace}

-- The tree is that of the file's tokens: by the grammar, within the limits of brackets and levels, and with so many
-- nodes at most.
pub record IsTreeOf (file : List ℕ) (tree : Tree) : Type 0 where
  pub tokens : List Lexeme
  pub cut : IsCut file tokens
  pub parses : Parses tokens tree
  pub low : height parses.syntax ≤ height_limit
  pub few : length tree.nodes ≤ 67_108_864

-- no tree of so few levels is one of these tokens
abbrev pub HasNoTree : List Lexeme → Type 0
HasNoTree tokens = (x : Syn) → DerivesFile tokens x → height x ≤ height_limit → ⊥

-- The file is refused by this code at this place, before its types are looked at.
pub data IsRefused (file : List ℕ) : ℕ → Pos → Type 0 where
  -- 100 to 104
  lexical : {code : ℕ} {place : Pos} → Refuses file code place → IsRefused file code place
  -- the bracket by which one too many stands open
  brackets : {place : Pos} (tokens : List Lexeme) → Lexes file tokens → excess tokens ≡ Some place →
      IsRefused file 121 place
  no_tree : {place : Pos} (tokens : List Lexeme) → IsCut file tokens → HasNoTree tokens →
      IsTokenPlace file tokens place → IsRefused file 120 place

-- what holds of the code and the place of a refusal that is none for want of memory
abbrev pub OnCode : Refusal → (ℕ → Pos → Type 0) → Type 0
OnCode (Code code place) P = P code place
OnCode NoMemory P = Unit {0}

-- what the parser answers of the file
abbrev pub Answers : List ℕ → Result Tree Refusal → Type 0
Answers file result = MatchResult result (λ tree. IsTreeOf file tree) (λ e. OnCode e (IsRefused file))
