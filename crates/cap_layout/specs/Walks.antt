-- How far the code has come in a type.
use Rattle.std.specs.Prelude.{◌≡◌, ℕ, ◌+◌, ◌<◌, ◌≤◌, min, List, [], Option, Some, None, Result, Ok, Err, Bool, true}
use Rattle.std.specs.Prelude.{false, not, slice_get}
use Rattle.c_tree.specs.Layout.{Extent, size_limit, scalar, with_extent, behind, no_members, members, whole}
use Rattle.c_tree.specs.Layout.{times, extent_of, extent_within, bare_of, members_of, struct_offset, union_offset}
use Rattle.c_tree.specs.Layout.{offset_of_member}
use Rattle.c_tree.specs.Counts.{is_record}
use Rattle.c_tree.specs.declared.typed.CType.{CType}
use Rattle.c_tree.specs.declared.typed.Member.{Member}
pub use Rattle.cap_layout.specs.Extents.{placing}
use Rattle.cap_layout.specs.declared.answers.LayoutFault.{LayoutFault}
use Rattle.cap_layout.specs.declared.shapes.Base.{Base}
use Rattle.cap_layout.specs.declared.shapes.Base.TheVariants.{Scalar, Members}
use Rattle.cap_layout.specs.declared.shapes.Shape.{Shape}
use Rattle.cap_layout.specs.declared.shapes.Shape.TheVariants.{Missing, Whole, Part}
use Rattle.cap_layout.specs.declared.shapes.Core.{Core}
use Rattle.cap_layout.specs.declared.records.Record.{Record}
use Rattle.cap_layout.specs.declared.records.Record.TheVariants.{Other, Struct, Union}
use Rattle.cap_layout.specs.Answers.{Layout, extent_is, greatest_align}

-- the extent of a type that is no array and not const, over those of its members' types
abbrev pub base_extent : Base → (ℕ → Option Extent) → Option Extent
base_extent (Scalar n) go = Some (scalar n)
base_extent (Members ms shared) go = with_extent (members (placing shared) go ms.now no_members) whole

-- one level of a type
abbrev pub shape_extent : Shape → (ℕ → Option Extent) → Option Extent
shape_extent Missing go = None
shape_extent (Whole b) go = base_extent b go
shape_extent (Part t n) go = with_extent (go t) (times n)

-- a number of elements as the code counts it: numbers over the limit are alike
abbrev pub capped : ℕ → ℕ
capped n = min n (size_limit + 1)

-- an extent is that of a number of elements
pub record IsRow (o element : Option Extent) (count : ℕ) : Type 0 where
  pub number : ℕ
  pub positive : 0 < number
  pub count_is : count ≡ capped number
  pub is : o ≡ with_extent element (times number)

-- a scalar has few bytes
abbrev pub IsSmall : Base → Type 0
IsSmall (Scalar n) = (0 < n) × (n ≤ 16)
IsSmall (Members ms shared) = Unit {0}

abbrev pub IsSmallShape : Shape → Type 0
IsSmallShape Missing = Unit {0}
IsSmallShape (Whole b) = IsSmall b
IsSmallShape (Part t n) = Unit {0}

-- a type without its arrays and the words `const` around it
pub record HasCore (d : ℕ) (types : List CType) (t : ℕ) (c : Core) : Type 0 where
  pub deeper : c.left < d
  pub small : IsSmall c.base
  pub row : IsRow (extent_within d types t) (base_extent c.base (extent_within c.left types)) c.count

abbrev pub IsCore : ℕ → List CType → ℕ → Option Core → Type 0
IsCore d types t None = extent_within d types t ≡ None
IsCore d types t (Some c) = HasCore d types t c

-- how far a walk over members has come: the end so far, or that it is over the limit whatever follows
abbrev pub Walk : Bool → (Extent → Extent → Extent) → (ℕ → Option Extent) → List Member → List Member → Layout → Type 0
Walk false place go ms rest end =
    (members place go ms no_members ≡ members place go rest (extent_is end)) × (end.size ≤ size_limit) ×
    (0 < end.align) × (end.align ≤ greatest_align)
Walk true place go ms rest end =
    (x : Extent) × (size_limit < x.size) × (members place go ms no_members ≡ members place go rest x)

-- ---- structs and unions behind the words `const`

-- the type behind one word `const`
abbrev pub IsInner : CType → Option ℕ → Type 0
IsInner c None = ((go : ℕ → Option CType) → bare_of (Some c) go ≡ Some c)
IsInner c (Some t) = ((go : ℕ → Option CType) → bare_of (Some c) go ≡ go t) ×
    ((go : ℕ → Option Extent) → extent_of (Some c) go ≡ go t)

-- the members of the struct or union
abbrev pub record_members : Record → List Member
record_members Other = []
record_members (Struct ms) = ms.now
record_members (Union ms) = ms.now

abbrev pub record_offset : Record → (ℕ → Option Extent) → ℕ → Option ℕ
record_offset Other go k = None
record_offset (Struct ms) go k = struct_offset go ms.now k no_members
record_offset (Union ms) go k = union_offset (slice_get ms.now k)

abbrev pub is_other : Record → Bool
is_other Other = true
is_other (Struct ms) = false
is_other (Union ms) = false

-- the extent of a struct, over those of its members' types
abbrev pub HasExtent : Record → Option Extent → (ℕ → Option Extent) → Type 0
HasExtent Other o go = Unit {0}
HasExtent (Struct ms) o go = o ≡ with_extent (members behind go ms.now no_members) whole
HasExtent (Union ms) o go = Unit {0}

-- a type is this struct or union
pub record Shows (o : Option CType) (r : Record) : Type 0 where
  pub members : members_of o ≡ record_members r
  pub offset : (go : ℕ → Option Extent) (k : ℕ) → offset_of_member o go k ≡ record_offset r go k
  pub record_is : is_record o ≡ not (is_other r)

pub record IsOneLevel (c : CType) (r : Record) : Type 0 where
  pub shows : Shows (Some c) r
  pub extent : (go : ℕ → Option Extent) → HasExtent r (extent_of (Some c) go) go

pub record IsRecord (types : List CType) (o : Option CType) (x : Option Extent) (r : Record) : Type 0 where
  pub shows : Shows o r
  pub depth : ℕ
  pub extent : HasExtent r x (extent_within depth types)

-- where member k of a struct begins, or why the struct has no layout
abbrev pub IsPlace : (ℕ → Option Extent) → List Member → ℕ → Result ℕ LayoutFault → Type 0
IsPlace go ms k (Ok at) = struct_offset go ms k no_members ≡ Some at
IsPlace go ms k (Err f) = (x : Extent) → members behind go ms no_members ≡ Some x → size_limit < x.size
