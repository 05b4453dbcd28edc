-- The types of a program by their numbers.
use Rattle.std.specs.Prelude.{◌≡◌, ℕ, ◌<◌, ◌≤◌, List, ◌++◌, length, All}
use Rattle.c_tree.specs.declared.typed.CType.{CType}
use Rattle.c_tree.specs.declared.typed.Typed.{Typed}
use Rattle.c_tree.specs.Types.{Ty, Void}
use Rattle.c_tree.specs.Views.{type_from, type_at, types_of}
pub use Rattle.c_type_levels.specs.Heads.{IsPlain}

-- the type that a number names in a program
abbrev pub type_named : Typed → ℕ → Ty
type_named p k = type_at (types_of p.types) k

-- the type that a type of the list would be at its end
abbrev pub type_after : List CType → CType → Ty
type_after types c = type_from c (type_at (types_of types))

-- a number of the list names the type
pub record IsAt (types : List CType) (k : ℕ) (c : CType) : Type 0 where
  pub there : k < length types
  pub is : type_at (types_of types) k ≡ type_after types c

-- Types that are no structs or unions may have been added at the end of the list, and nothing else has changed
pub record AddsTypes (old new : Typed) : Type 0 where
  pub added : List CType
  pub types : new.types ≡ old.types ++ added
  pub plain : All IsPlain added
  pub rest : new ≡ record old { types = new.types }

-- a number of the new program names what the type is in the old one
pub record IsNumberOf (old new : Typed) (k : ℕ) (c : CType) : Type 0 where
  pub there : k < length new.types
  pub is : type_named new k ≡ type_after old.types c

-- of the types of a list, those before a number are seen, and nothing else
pub record SeesBefore (types : List CType) (k : ℕ) (seen : ℕ → Ty) : Type 0 where
  pub below : (j : ℕ) → j < k → seen j ≡ type_at (types_of types) j
  pub past : (j : ℕ) → k ≤ j → seen j ≡ Void
