-- What is asked of a program's objects for it to begin.
use Rattle.std.specs.Prelude.{◌≡◌, ℕ, ◌+◌, ◌^◌, ◌<◌, ◌≤◌, List, length, Some, slice_get}
use Rattle.c_tree.specs.Layout.{size_limit}
use Rattle.c_tree.specs.declared.typed.GlobalDef.{GlobalDef}
use Rattle.c_tree.specs.declared.typed.Link.{Link}
use Rattle.c_tree.specs.declared.typed.Literal.{Literal}
use Rattle.c_tree.specs.declared.typed.Typed.{Typed}
use Rattle.cheri_c_sem.specs.Programs.{value_at}
use Rattle.cheri_c_sem.specs.Tree.{Starting}
use Rattle.cheri_c_sem.specs.Types.{size_in}

abbrev pub IsSized : Typed → GlobalDef → Type 0
IsSized p g = size_in p.types g.of ≤ size_limit

-- the bounds of each pointer end at an address
abbrev pub AreLinks : List Link → Type 0
AreLinks links = (j : ℕ) (l : Link) → slice_get links j ≡ Some l → l.low + l.length < 2 ^ 64

pub record IsStartable (p : Typed) : Type 0 where
  -- typing: the types of globals are complete, and within the limit
  pub sizes : (k : ℕ) (g : GlobalDef) → slice_get p.globals k ≡ Some g → IsSized p g
  pub literals : (k : ℕ) (l : Literal) → slice_get p.literals k ≡ Some l → length l.bytes ≤ size_limit
  -- they have 32 bits in the tree
  pub few : length p.globals < 2 ^ 32
  pub few_literals : length p.literals < 2 ^ 32
  -- bounds are within a target
  pub links : (k : ℕ) (g : GlobalDef) → slice_get p.globals k ≡ Some g → AreLinks g.links

-- a pointer with which a global begins
abbrev pub starting : Typed → Link → Starting
starting p l = record { at = l.at; value = value_at p l l.target }
