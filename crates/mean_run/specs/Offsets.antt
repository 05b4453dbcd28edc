-- Where members begin, as it is kept.
use Rattle.std.specs.Prelude.{◌≡◌, ℕ, ◌+◌, ◌^◌, ◌<◌, ◌≤◌, List, [], ◌∷◌, length, Option, Some, slice_get}
use Rattle.cap_concentrate.specs.Rounding.{owned}
use Rattle.c_tree.specs.Layout.{Extent, bare, extent, member_at, member_offset, members_of, no_members}
use Rattle.c_tree.specs.Layout.{offset_of_member, size_limit, struct_offset}
use Rattle.c_tree.specs.declared.typed.CType.{CType}
use Rattle.c_tree.specs.declared.typed.CType.TheVariants as types
use Rattle.c_tree.specs.declared.typed.Member.{Member}

-- members so far that end at a place, and where one more of them ends
abbrev pub end_at : ℕ → Extent
end_at n = record { size = n; align = 1 }

abbrev pub end_behind : Extent → ℕ → ℕ
end_behind x end = member_offset x (end_at end) + owned x.size

-- members behind an end stay within the limit
abbrev pub AreWithin : (ℕ → Option Extent) → ℕ → List Member → Type 0
AreWithin go end [] = Unit {0}
AreWithin go end (m ∷ ms) = (x : Extent) × (go m.of ≡ Some x) × (x.size ≤ size_limit) × (end ≤ size_limit) ×
    AreWithin go (end_behind x end) ms

-- where the members of a struct begin
pub record AreStarts (go : ℕ → Option Extent) (ms : List Member) (row : List ℕ) : Type 0 where
  pub count : length row ≡ length ms
  pub each : AreWithin go 0 ms → (k n : ℕ) → slice_get row k ≡ Some n → Some n ≡ struct_offset go ms k no_members

abbrev pub IsWithin : (ℕ → Option Extent) → Option CType → Type 0
IsWithin go (Some (types.Struct tag ms)) = AreWithin go 0 ms
IsWithin go c = Unit {0}

pub record AreStartsIn (go : ℕ → Option Extent) (c : Option CType) (row : List ℕ) : Type 0 where
  pub count : length row ≡ length (members_of c)
  pub each : IsWithin go c → (k n : ℕ) → slice_get row k ≡ Some n → Some n ≡ offset_of_member c go k

-- a type that has a size, which is within the limit
abbrev pub IsWhole : List CType → ℕ → Type 0
IsWhole types t = (x : Extent) × (extent types t ≡ Some x) × (x.size ≤ size_limit)

-- the offsets of the members of one type, and of all types of a list
pub record AreOffsetsOf (types : List CType) (t : ℕ) (row : List ℕ) : Type 0 where
  pub count : length row ≡ length (members_of (bare types t))
  pub each : IsWhole types t → (k n : ℕ) → slice_get row k ≡ Some n → Some n ≡ member_at types t k

pub record AreOffsets (types : List CType) (all : List (List ℕ)) : Type 0 where
  pub count : length all ≡ length types
  pub each : (t : ℕ) (row : List ℕ) → t < 2 ^ 32 → slice_get all t ≡ Some row → AreOffsetsOf types t row

-- a struct or union of a size has a member of this number
pub record HasMember (types : List CType) (t member : ℕ) : Type 0 where
  pub whole : IsWhole types t
  pub there : member < length (members_of (bare types t))
