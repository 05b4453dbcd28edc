-- Which typed program a file is, and why a file is none: the public relations of typing, and that they are exclusive
-- and single-valued.
use Rattle.std.specs.Prelude.{◌≡◌, ℕ, ◌-◌, ◌<◌, List, take, drop, slice_get, Some, Ok, Err}
use Rattle.ck_base.specs.declared.positions.Pos.{Pos}
use Rattle.ck_base.specs.Tokens.{Lexeme}
use Rattle.ck_base.specs.Lexes.{IsAccepted}
use Rattle.c_tree.specs.declared.syntax.Tree.{Tree}
use Rattle.c_tree.specs.declared.typed.Typed.{Typed}
use Rattle.c_tree.specs.Syntax.{Syn, Syns, node, nil, more, StandsAt}
use Rattle.c_tree.specs.Parses.{DerivesFile}
use Rattle.c_tree.specs.Terms.{Program}
use Rattle.c_tree.specs.Programs.{typing}
use Rattle.c_tree.specs.Views.{Shows, IsOrdered}

-- the bytes that a token's span names
abbrev pub bytes_at : List ℕ → Lexeme → List ℕ
bytes_at bytes t = take (t.span.end - t.span.start) (drop t.span.start bytes)

-- the tokens of a tree are spelled so in the file
unfoldable mutual
  pub IsSpelled : List ℕ → Syn → Type 0
  IsSpelled bytes (node k t xs) = (t.text ≡ bytes_at bytes t) × AreSpelled bytes xs

  pub AreSpelled : List ℕ → Syns → Type 0
  AreSpelled bytes nil = Unit {0}
  AreSpelled bytes (more x xs) = IsSpelled bytes x × AreSpelled bytes xs

-- A syntax is this typed program: typing gives a program, and the lists stand for it
pub record TypesSyntax (x : Syn) (p : Typed) : Type 0 where
  pub program : Program
  pub given : typing x ≡ Ok program
  pub shows : Shows p program
  pub ordered : IsOrdered p

-- a syntax is none, by the first rule that fails
abbrev pub RefusesSyntax : Syn → ℕ → Pos → Type 0
RefusesSyntax x code place = typing x ≡ Err (record { code = code; place = place })

-- the items of a list are bytes
abbrev pub AreBytes : List ℕ → Type 0
AreBytes bytes = (k b : ℕ) → slice_get bytes k ≡ Some b → b < 256

-- An untyped tree stands for a syntax in the bytes of a file: it is the tree of tokens, each of which is one of the
-- language
pub record Reads (tree : Tree) (bytes : List ℕ) (x : Syn) : Type 0 where
  pub small : AreBytes bytes
  pub stands : StandsAt tree.nodes tree.root x
  pub spelled : IsSpelled bytes x
  pub tokens : List Lexeme
  pub derives : DerivesFile tokens x
  pub accepted : (k : ℕ) (t : Lexeme) → slice_get tokens k ≡ Some t → IsAccepted t.kind t.text

pub record Types (tree : Tree) (bytes : List ℕ) (p : Typed) : Type 0 where
  pub syntax : Syn
  pub reads : Reads tree bytes syntax
  pub types : TypesSyntax syntax p

pub record Refuses (tree : Tree) (bytes : List ℕ) (code : ℕ) (place : Pos) : Type 0 where
  pub syntax : Syn
  pub reads : Reads tree bytes syntax
  pub refuses : RefusesSyntax syntax code place

-- a typed program is sound where some file is it
pub record Sound (p : Typed) : Type 0 where
  pub tree : Tree
  pub bytes : List ℕ
  pub types : Types tree bytes p

-- what two typed programs have in common that stand for one program
pub record Alike (p q : Typed) : Type 0 where
  pub program : Program
  pub first : Shows p program
  pub second : Shows q program

-- One syntax is one program, whatever the numbers of its nodes and types, or is refused by one code at one place, and
-- never both
pub record OneAnswer (x : Syn) : Type 0 where
  pub typed : (p q : Typed) → TypesSyntax x p → TypesSyntax x q → Alike p q
  pub refused : (c d : ℕ) (p q : Pos) → RefusesSyntax x c p → RefusesSyntax x d q → (c ≡ d) × (p ≡ q)
  pub apart : (p : Typed) (c : ℕ) (q : Pos) → TypesSyntax x p → RefusesSyntax x c q → ⊥
