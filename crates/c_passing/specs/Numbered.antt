-- What stands for the types of a program.
use Rattle.std.specs.Prelude.{◌≡◌, ℕ, ◌<◌, true, List, ◌∷◌, [], ◌++◌, length, map, Option, Some, None, slice_get}
use Rattle.std.specs.Prelude.{slice_index, if◌then◌else◌}
use Rattle.c_tree.specs.declared.typed.CType.{CType}
use Rattle.c_tree.specs.declared.typed.CType.TheVariants as ctypes
use Rattle.c_tree.specs.declared.typed.Member.{Member}
use Rattle.c_tree.specs.Types.{Ty, Void, Pointer, bare}
use Rattle.c_tree.specs.Views.{type_at, types_of, member_of}
use Rattle.c_tree.specs.Passed.{by_pointer, passed, passed_member, result_types}
use Rattle.c_copy.specs.Copying.{AllBelow}
use Rattle.passing_steps.specs.Types.{Types}
use Rattle.passing_steps.specs.Ordered.{AreThere}
use Rattle.passing_steps.specs.Numbered.{type_in}

-- what a function gives
abbrev pub gives_of : CType → Option ℕ
gives_of (ctypes.Function t ps) = Some t
gives_of c = None

-- the type of the result that a function of a type gives by a pointer, if there is one
abbrev pub IsGivenIn : List CType → ℕ → Option ℕ → Type 0
IsGivenIn types of None = result_types (type_in types of) ≡ []
IsGivenIn types of (Some k) =
    (result_types (type_in types of) ≡ Pointer (bare (type_in types k)) ∷ []) × (by_pointer (type_in types k) ≡ true)

-- type `n` of the new list stands for type `k` of the written one
pub record IsNumber (types list : List CType) (k n : ℕ) : Type 0 where
  pub there : n < length list
  pub is : type_in list n ≡ passed (type_in types k)

-- type `n` of the new list is the pointer to type `k` of the written one, where that goes by a pointer
pub record IsPointer (types list : List CType) (k n : ℕ) : Type 0 where
  pub there : n < length list
  pub is : by_pointer (type_in types k) ≡ true → type_in list n ≡ Pointer (bare (type_in types k))

pub record StartsVoid (list : List CType) : Type 0 where
  pub there : 0 < length list
  pub is : type_in list 0 ≡ Void

-- a struct or union of the new list stands in the written one, with the same members
abbrev pub IsKept : List CType → CType → Type 0
IsKept types (ctypes.Struct tag ms) = (j : ℕ) × (slice_get types j ≡ Some (ctypes.Struct tag ms))
IsKept types (ctypes.Union tag ms) = (j : ℕ) × (slice_get types j ≡ Some (ctypes.Union tag ms))
IsKept types (ctypes.Incomplete tag) = (j : ℕ) × (slice_get types j ≡ Some (ctypes.Incomplete tag))
IsKept types c = Unit {0}

-- a type at a number names types before it, but for members
abbrev pub IsBehind : ℕ → CType → Type 0
IsBehind k (ctypes.Pointer t) = t < k
IsBehind k (ctypes.Array t n) = t < k
IsBehind k (ctypes.Const t) = t < k
IsBehind k (ctypes.Function t ps) = (t < k) × AllBelow k ps
IsBehind k c = Unit {0}

-- what stands for some written types
pub record Follows (types : List CType) (t : Types) : Type 0 where
  pub void : StartsVoid t.list.items
  pub number_count : length t.numbers.items ≡ length types
  pub pointer_count : length t.pointers.items ≡ length types
  pub numbers : (k n : ℕ) → slice_index t.numbers.items k ≡ n → IsNumber types t.list.items k n
  pub pointers : (k n : ℕ) → slice_index t.pointers.items k ≡ n → IsPointer types t.list.items k n
  pub kept : (k : ℕ) (c : CType) → slice_get t.list.items k ≡ Some c → IsKept types c
  pub behind : (k : ℕ) (c : CType) → slice_get t.list.items k ≡ Some c → IsBehind k c

-- what stands for one more, which is this one, comes behind
abbrev pub AddsType : List CType → Types → Types → CType → Type 0
AddsType types old new c = Follows types old → Follows (types ++ c ∷ []) new

-- new types, and the numbers of what stands for one more written type
pub record Keeps (old new : Types) (cs : List CType) (number pointer : ℕ) : Type 0 where
  pub list : new.list.items ≡ old.list.items ++ cs
  pub numbers : new.numbers.items ≡ old.numbers.items ++ number ∷ []
  pub pointers : new.pointers.items ≡ old.pointers.items ++ pointer ∷ []

-- what stands for a parameter
abbrev pub passed_parameter : Ty → Ty
passed_parameter t = (if by_pointer t then Pointer (bare t) else passed t)

-- numbers of what stands for parameters of types come behind others
pub record AreParameters (types : List CType) (t : Types) (ks before after : List ℕ) : Type 0 where
  pub are : Follows types t →
      map (type_in t.list.items) after ≡ map (type_in t.list.items) before
      ++ map passed_parameter (map (type_in types) ks)
  pub there : Follows types t → AllBelow (length t.list.items) before → AllBelow (length t.list.items) after

-- the members of a struct or union, with the numbers of what stands for their types
pub record AreRenumbered (numbers : List ℕ) (ms ns : List Member) : Type 0 where
  pub are : (types ts : List Ty) →
      ((k n : ℕ) → slice_index numbers k ≡ n → type_at ts n ≡ passed (type_at types k)) →
      map (member_of ts) ns ≡ map passed_member (map (member_of types) ms)
  pub there : (n : ℕ) → AreThere n numbers → (j : ℕ) (m : Member) → slice_get ns j ≡ Some m → m.of < n

abbrev pub IsWithMembers : List ℕ → CType → CType → Type 0
IsWithMembers numbers (ctypes.Struct tag ms) d =
    (ns : List Member) × (d ≡ ctypes.Struct tag ns) × AreRenumbered numbers ms ns
IsWithMembers numbers (ctypes.Union tag ms) d =
    (ns : List Member) × (d ≡ ctypes.Union tag ns) × AreRenumbered numbers ms ns
IsWithMembers numbers c d = d ≡ c

-- the same list, where members have the numbers of what stands for their types
pub record AreListed (numbers : List ℕ) (list new : List CType) : Type 0 where
  pub types : types_of new ≡ types_of list
  pub each : (k : ℕ) (d : CType) → slice_get new k ≡ Some d →
      (c : CType) × (slice_get list k ≡ Some c) × IsWithMembers numbers c d
