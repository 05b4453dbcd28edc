-- What stands for types.
use Rattle.std.specs.Prelude.{◌≡◌, ℕ, Bool, true, false, List, Option, Some, None, slice_index}
use Rattle.c_tree.specs.declared.typed.CType.{CType}
use Rattle.c_tree.specs.declared.typed.CType.TheVariants as ctypes
use Rattle.c_tree.specs.Types.{Ty, Void, Pointer, bare, is_tagged}
use Rattle.c_tree.specs.Views.{type_at, types_of}
use Rattle.c_tree.specs.Passed.{by_pointer, passed}
use Rattle.passing_nodes.specs.declared.types.Types.{Types}

-- the type that a number names in a list
abbrev pub type_in : List CType → ℕ → Ty
type_in types k = type_at (types_of types) k

-- a struct or union
abbrev pub is_record : CType → Bool
is_record (ctypes.Struct tag ms) = true
is_record (ctypes.Union tag ms) = true
is_record (ctypes.Incomplete tag) = true
is_record c = false

-- what is qualified
abbrev pub const_of : CType → Option ℕ
const_of (ctypes.Const t) = Some t
const_of c = None

-- a type without a qualifier of its own, as far as that matters
pub record IsBare (types : List CType) (k n : ℕ) : Type 0 where
  pub same : is_tagged (type_in types n) ≡ by_pointer (type_in types k)
  pub is : by_pointer (type_in types k) ≡ true → type_in types n ≡ bare (type_in types k)

-- the types of the program that is run, for all written ones
pub record TypesFit (types : List CType) (t : Types) (ts : List Ty) : Type 0 where
  pub void : type_at ts 0 ≡ Void
  pub numbers : (k n : ℕ) → slice_index t.numbers.items k ≡ n → type_at ts n ≡ passed (type_in types k)
  pub pointers : (k n : ℕ) → slice_index t.pointers.items k ≡ n → by_pointer (type_in types k) ≡ true →
      type_at ts n ≡ Pointer (bare (type_in types k))
