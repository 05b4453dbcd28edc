-- Sizes and alignments of the types of a program, apart from the list in which their numbers stand.
use Rattle.std.specs.Prelude.{ℕ, zero, suc, List, [], ◌∷◌, Option, Some, None, slice_get}
use Rattle.ck_base.specs.declared.positions.Span.{Span}
use Rattle.c_tree.specs.declared.syntax.RecordKind.{RecordKind}
use Rattle.c_tree.specs.declared.syntax.RecordKind.TheVariants.{Struct, Union}
use Rattle.c_tree.specs.Layout.{Extent, with_extent, scalar, bytes_of, times, behind, beside, no_members, whole}
use Rattle.c_tree.specs.Types.{Ty, Void, Int, Cap, Pointer, Array, Tagged, Function, Const}
use Rattle.c_tree.specs.Terms.{Tag}

-- the members of a struct or union with the extents of their types
abbrev pub tree_members : (Extent → Extent → Extent) → (Ty → Option Extent) → List (Span × Ty) → Extent → Option Extent
tree_members place go [] x = Some x
tree_members place go (m ∷ ms) x = with_extent (go m.1) (λ y. tree_members place go ms (place y x))

abbrev pub record_level : RecordKind → (Ty → Option Extent) → List (Span × Ty) → Option Extent
record_level Struct go ms = with_extent (tree_members behind go ms no_members) whole
record_level Union go ms = with_extent (tree_members beside go ms no_members) whole

abbrev pub members_level : Option (List (Span × Ty)) → RecordKind → (Ty → Option Extent) → Option Extent
members_level None k go = None
members_level (Some ms) k go = record_level k go ms

abbrev pub tag_level : Option Tag → (Ty → Option Extent) → Option Extent
tag_level None go = None
tag_level (Some t) go = members_level t.members t.kind go

-- one level of a type
abbrev pub type_level : List Tag → Ty → (Ty → Option Extent) → Option Extent
type_level tags Void go = None
type_level tags (Int k n) go = Some (scalar (bytes_of k))
type_level tags (Cap s) go = Some (scalar 16)
type_level tags (Pointer t) go = Some (scalar 16)
type_level tags (Array t n) go = with_extent (go t) (times n)
type_level tags (Tagged k) go = tag_level (slice_get tags k) go
type_level tags (Function r ps) go = None
type_level tags (Const t) go = go t

-- the extent of a type whose parts lie at most so many levels deep in one another
unfoldable pub tree_extent : ℕ → List Tag → Ty → Option Extent
tree_extent zero tags t = None
tree_extent (suc d) tags t = type_level tags t (tree_extent d tags)
