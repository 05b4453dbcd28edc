-- What the meaning asks of types, apart from the list in which their numbers stand.
use Rattle.std.specs.Prelude.{ℕ, zero, suc, ◌==◌, ◌&&◌, Bool, true, false, List, [], ◌∷◌, Option, Some, None, slice_get}
use Rattle.ck_base.specs.declared.positions.Span.{Span}
use Rattle.c_tree.specs.declared.syntax.RecordKind.TheVariants.{Struct, Union}
use Rattle.c_tree.specs.declared.syntax.RecordKind.{RecordKind}
use Rattle.c_tree.specs.Layout.{Extent, with_extent, behind, member_offset, no_members}
use Rattle.c_tree.specs.Types.{Ty, Void, Int, Cap, Pointer, Array, Tagged, Function, Const, Tys, no_types, also}
use Rattle.c_tree.specs.Terms.{Tag}
use Rattle.c_tree.specs.TreeLayout.{tree_extent}
use Rattle.cheri_c_sem.specs.Compatible.{kind_number, same_bool, lengths_agree}
use Rattle.cheri_c_sem.specs.Kinds.{Kind, Plain, Capability}
use Rattle.cheri_c_sem.specs.Types.{size_of_extent, align_of_extent, offset_or_zero, kind_or_int}

-- ---- kinds

-- the type behind the words `const` before it
unfoldable pub peeled : Ty → Ty
peeled (Const t) = peeled t
peeled Void = Void
peeled (Int k n) = Int k n
peeled (Cap s) = Cap s
peeled (Pointer t) = Pointer t
peeled (Array t n) = Array t n
peeled (Tagged k) = Tagged k
peeled (Function r ps) = Function r ps

-- of a type that is peeled
abbrev pub tree_scalar : Ty → Option Kind
tree_scalar (Int k n) = Some (Plain k)
tree_scalar (Cap signed) = Some (Capability signed)
tree_scalar (Pointer t) = Some (Capability false)
tree_scalar t = None

abbrev pub tree_kind : Ty → Kind
tree_kind t = kind_or_int (tree_scalar (peeled t))

abbrev pub has_members : {A : Type 0} → Option A → Bool
has_members None = false
has_members (Some ms) = true

abbrev pub is_complete : Option Tag → Bool
is_complete None = false
is_complete (Some t) = has_members t.members

abbrev pub is_tree_record : List Tag → Ty → Bool
is_tree_record tags (Tagged k) = is_complete (slice_get tags k)
is_tree_record tags t = false

abbrev pub is_tree_void : Ty → Bool
is_tree_void Void = true
is_tree_void t = false

abbrev pub is_tree_plain : Ty → Bool
is_tree_plain (Int k n) = true
is_tree_plain t = false

abbrev pub is_tree_pointer : Ty → Bool
is_tree_pointer (Pointer t) = true
is_tree_pointer t = false

abbrev pub is_tree_signed : Ty → Bool
is_tree_signed (Cap signed) = signed
is_tree_signed t = false

-- ---- layout, where the parts of types lie at most d levels deep in one another

abbrev pub tree_size : ℕ → List Tag → Ty → ℕ
tree_size d tags t = size_of_extent (tree_extent d tags t)

abbrev pub tree_align : ℕ → List Tag → Ty → ℕ
tree_align d tags t = align_of_extent (tree_extent d tags t)

abbrev pub tree_struct_offset : (Ty → Option Extent) → List (Span × Ty) → ℕ → Extent → Option ℕ
tree_struct_offset go [] k before = None
tree_struct_offset go (m ∷ ms) zero before = with_extent (go m.1) (λ x. Some (member_offset x before))
tree_struct_offset go (m ∷ ms) (suc k) before =
    with_extent (go m.1) (λ x. tree_struct_offset go ms k (behind x before))

abbrev pub tree_union_offset : Option (Span × Ty) → Option ℕ
tree_union_offset None = None
tree_union_offset (Some m) = Some 0

abbrev pub offset_by : RecordKind → Option (List (Span × Ty)) → (Ty → Option Extent) → ℕ → Option ℕ
offset_by k None go n = None
offset_by Struct (Some ms) go n = tree_struct_offset go ms n no_members
offset_by Union (Some ms) go n = tree_union_offset (slice_get ms n)

abbrev pub offset_in_tag : Option Tag → (Ty → Option Extent) → ℕ → Option ℕ
offset_in_tag None go n = None
offset_in_tag (Some t) go n = offset_by t.kind t.members go n

abbrev pub tree_member_at : List Tag → Ty → (Ty → Option Extent) → ℕ → Option ℕ
tree_member_at tags (Tagged k) go n = offset_in_tag (slice_get tags k) go n
tree_member_at tags t go n = None

-- where member n of a struct or union begins
abbrev pub tree_offset : ℕ → List Tag → Ty → ℕ → ℕ
tree_offset d tags t n = offset_or_zero (tree_member_at tags (peeled t) (tree_extent d tags) n)

-- ---- compatible types

abbrev pub all_types_agree : (Ty → Ty → Bool) → Tys → Tys → Bool
all_types_agree agree no_types no_types = true
all_types_agree agree no_types (also u us) = false
all_types_agree agree (also t ts) no_types = false
all_types_agree agree (also t ts) (also u us) = agree t u && all_types_agree agree ts us

-- one level of two types
abbrev pub types_agree : (Ty → Ty → Bool) → (Ty → Ty → Bool) → Ty → Ty → Bool
types_agree agree parameter Void Void = true
types_agree agree parameter (Int k n) (Int k' n') = kind_number k == kind_number k' && n == n'
types_agree agree parameter (Cap s) (Cap s') = same_bool s s'
types_agree agree parameter (Pointer t) (Pointer u) = agree t u
types_agree agree parameter (Array t n) (Array u n') = agree t u && lengths_agree n n'
types_agree agree parameter (Tagged k) (Tagged k') = k == k'
types_agree agree parameter (Const t) (Const u) = agree t u
types_agree agree parameter (Function t ps) (Function u qs) = agree t u && all_types_agree parameter ps qs
types_agree agree parameter t u = false

-- types whose parts lie at most so many levels deep in one another; the truth value says that their own const doesn't
-- count
unfoldable pub tree_agree : ℕ → Bool → Ty → Ty → Bool
tree_agree zero loose t u = false
tree_agree (suc d) true t u = types_agree (tree_agree d false) (tree_agree d true) (peeled t) (peeled u)
tree_agree (suc d) false t u = types_agree (tree_agree d false) (tree_agree d true) t u
