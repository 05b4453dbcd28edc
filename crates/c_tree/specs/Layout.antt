-- Sizes, alignments and member offsets of types (C11 6.2.8, 6.5.3.4, 6.7.2.1), where each pointer is a capability of
-- 128 bits and a member that is an array, a struct or a union can have exact bounds of its own.
use Rattle.std.specs.Prelude.{ℕ, zero, suc, ◌+◌, ◌*◌, max, List, [], ◌∷◌, length, Option, Some, None, slice_get}
use Rattle.std.specs.Prelude.{nat_le, if◌then◌else◌}
use Rattle.cap_concentrate.specs.Rounding.{rounded_up, alignment, owned}
use Rattle.ck_int.specs.declared.kinds.IntKind.{IntKind}
use Rattle.ck_int.specs.declared.kinds.IntKind.TheVariants as kind
use Rattle.c_tree.specs.declared.typed.CType.{CType}
use Rattle.c_tree.specs.declared.typed.CType.TheVariants.{Void, Int, Cap, Pointer, Array, Struct, Union, Function}
use Rattle.c_tree.specs.declared.typed.CType.TheVariants.{Const, Incomplete}
use Rattle.c_tree.specs.declared.typed.Member.{Member}

-- a size and an alignment, in bytes
pub record Extent : Type 0 where
  pub size : ℕ
  pub align : ℕ

-- the greatest size of a type
abbrev pub size_limit : ℕ
size_limit = 67108864

-- an integer type has the bytes of its kind, and is aligned to them
abbrev pub bytes_of : IntKind → ℕ
bytes_of kind.Bool = 1
bytes_of kind.I8 = 1
bytes_of kind.U8 = 1
bytes_of kind.I16 = 2
bytes_of kind.U16 = 2
bytes_of kind.I32 = 4
bytes_of kind.U32 = 4
bytes_of kind.I64 = 8
bytes_of kind.U64 = 8

abbrev pub scalar : ℕ → Extent
scalar n = record { size = n; align = n }

-- So many bytes, if within the limit. A type over the limit is refused where it is formed, and has none to count
abbrev pub fitting : ℕ → ℕ
fitting n = if nat_le n size_limit then n else 0

-- the size of a type
abbrev pub size_of : Option Extent → ℕ
size_of None = 0
size_of (Some x) = fitting x.size

-- an extent within the limit
abbrev pub within : Option Extent → Option Extent
within None = None
within (Some x) = if nat_le x.size size_limit then Some x else None

abbrev pub with_extent : {A : Type 0} → Option Extent → (Extent → Option A) → Option A
with_extent None f = None
with_extent (Some x) f = f x

-- the alignment of an object: the greatest of 16, its type's and that of its length
abbrev pub object_alignment : ℕ → ℕ → ℕ
object_alignment type_alignment n = max 16 (max type_alignment (alignment n))

-- ---- members

-- A member has the alignment of its type and that of its length, and owns the owned length of its own.
-- (A scalar has at most 16 bytes, so the alignment of its length is 1, and it owns exactly its bytes.)
abbrev pub member_align : Extent → ℕ
member_align m = max m.align (alignment m.size)

-- A member of a struct begins at the least multiple of its alignment that is not below the end of the members before
-- it. The members so far are an extent too: where they end, and the greatest of their alignments
abbrev pub member_offset : Extent → Extent → ℕ
member_offset m before = rounded_up before.size (member_align m)

abbrev pub behind : Extent → Extent → Extent
behind m before = record { size = member_offset m before + owned m.size; align = max before.align (member_align m) }

-- a member of a union begins at 0
abbrev pub beside : Extent → Extent → Extent
beside m before = record { size = max before.size (owned m.size); align = max before.align (member_align m) }

abbrev pub no_members : Extent
no_members = record { size = 0; align = 1 }

-- The members, each placed by `place`, after those before them; `go` gives the extents of their types
unfoldable pub members : (Extent → Extent → Extent) → (ℕ → Option Extent) → List Member → Extent → Option Extent
members place go [] before = Some before
members place go (m ∷ ms) before = with_extent (go m.of) (λ x. members place go ms (place x before))

-- the size of a struct or union is rounded up to its alignment
abbrev pub whole : Extent → Option Extent
whole x = Some (record { size = rounded_up x.size x.align; align = x.align })

-- ---- types

-- the elements of an array stand without gaps; an array of no elements is one whose length is not known
abbrev pub times : ℕ → Extent → Option Extent
times zero x = None
times (suc k) x = Some (record { size = suc k * x.size; align = x.align })

-- One level of a type, over the extents of those that it names. What is not complete has none (C11 6.2.5p1): void,
-- functions, an array without a length, a struct or union without members, and what has a part that is not complete
abbrev pub extent_of : Option CType → (ℕ → Option Extent) → Option Extent
extent_of None go = None
extent_of (Some Void) go = None
extent_of (Some (Int k n)) go = Some (scalar (bytes_of k))
extent_of (Some (Cap s)) go = Some (scalar 16)
extent_of (Some (Pointer t)) go = Some (scalar 16)
extent_of (Some (Array t n)) go = with_extent (go t) (times n)
extent_of (Some (Struct tag ms)) go = with_extent (members behind go ms no_members) whole
extent_of (Some (Union tag ms)) go = with_extent (members beside go ms no_members) whole
extent_of (Some (Function t ps)) go = None
extent_of (Some (Const t)) go = go t
extent_of (Some (Incomplete tag)) go = None

-- the extent of a type of a list whose parts lie at most so many levels deep in one another
unfoldable pub extent_within : ℕ → List CType → ℕ → Option Extent
extent_within zero types t = None
extent_within (suc d) types t = extent_of (slice_get types t) (extent_within d types)

-- The extent of a type. As many levels as there are types are enough: where there are more, a type contains itself, and
-- it is not complete
abbrev pub extent : List CType → ℕ → Option Extent
extent types t = extent_within (length types) types t

-- ---- offsets

-- where member k of a struct begins
unfoldable pub struct_offset : (ℕ → Option Extent) → List Member → ℕ → Extent → Option ℕ
struct_offset go [] k before = None
struct_offset go (m ∷ ms) zero before = with_extent (go m.of) (λ x. Some (member_offset x before))
struct_offset go (m ∷ ms) (suc k) before = with_extent (go m.of) (λ x. struct_offset go ms k (behind x before))

abbrev pub union_offset : Option Member → Option ℕ
union_offset None = None
union_offset (Some m) = Some 0

-- A type behind the words `const` before it
abbrev pub bare_of : Option CType → (ℕ → Option CType) → Option CType
bare_of (Some (Const t)) go = go t
bare_of c go = c

unfoldable pub bare_within : ℕ → List CType → ℕ → Option CType
bare_within zero types t = None
bare_within (suc d) types t = bare_of (slice_get types t) (bare_within d types)

abbrev pub bare : List CType → ℕ → Option CType
bare types t = bare_within (length types) types t

-- the members of a struct or union
abbrev pub members_of : Option CType → List Member
members_of (Some (Struct tag ms)) = ms
members_of (Some (Union tag ms)) = ms
members_of c = []

-- where member k of a struct or union begins, in bytes
abbrev pub offset_of_member : Option CType → (ℕ → Option Extent) → ℕ → Option ℕ
offset_of_member (Some (Struct tag ms)) go k = struct_offset go ms k no_members
offset_of_member (Some (Union tag ms)) go k = union_offset (slice_get ms k)
offset_of_member c go k = None

abbrev pub member_at : List CType → ℕ → ℕ → Option ℕ
member_at types t k = offset_of_member (bare types t) (extent types) k
