-- The size of a type, level by level, and that of a struct or union.
use Rattle.std.specs.Prelude.{◌≡◌, ℕ, ◌<◌, ◌≤◌, List, Option, Some, None, Result, Ok, Err, option_map, slice_get}
use Rattle.c_tree.specs.declared.typed.CType.{CType}
use Rattle.cap_layout.specs.Answers.{greatest_align, Exceeds}
use Rattle.cap_layout.specs.declared.answers.Layout.{Layout}
use Rattle.cap_layout.specs.declared.answers.LayoutFault.{LayoutFault}
use Rattle.c_tree.specs.Layout.{Extent, size_limit, scalar, with_extent, times}
use Rattle.c_tree.specs.Views.{type_at, types_of}
use Rattle.c_tree.specs.Scopes.{TagState, tag_extent, type_extent}
use Rattle.c_type_sizes.specs.declared.rooms.Room.{Room}
use Rattle.c_type_sizes.specs.declared.extents.Base.{Base}
use Rattle.c_type_sizes.specs.declared.extents.Base.TheVariants.{Missing, Scalar, Tagged}
use Rattle.c_type_sizes.specs.declared.extents.Step.{Step}
use Rattle.c_type_sizes.specs.declared.extents.Step.TheVariants as steps

abbrev pub room_extent : Room → Extent
room_extent r = record { size = r.size; align = r.align }

abbrev pub base_extent : List TagState → Base → Option Extent
base_extent tags Missing = None
base_extent tags (Scalar n) = Some (scalar n)
base_extent tags (Tagged n) = tag_extent (slice_get tags n)

-- the extent of a type of a list
abbrev pub numbered_extent : List TagState → List CType → ℕ → Option Extent
numbered_extent tags types t = type_extent tags (type_at (types_of types) t)

abbrev pub step_extent : List TagState → List CType → Step → Option Extent
step_extent tags types (steps.Base b) = base_extent tags b
step_extent tags types (steps.Part t n) = with_extent (numbered_extent tags types t) (times n)

-- a scalar has few bytes
abbrev pub IsSmallBase : Base → Type 0
IsSmallBase Missing = Unit {0}
IsSmallBase (Scalar n) = (0 < n) × (n ≤ 16)
IsSmallBase (Tagged n) = Unit {0}

abbrev pub IsSmallStep : Step → Type 0
IsSmallStep (steps.Base b) = IsSmallBase b
IsSmallStep (steps.Part t n) = 0 < n

-- the part of a type stands before it
abbrev pub HasSmallerPart : Step → ℕ → Type 0
HasSmallerPart (steps.Base b) t = Unit {0}
HasSmallerPart (steps.Part i n) t = i < t

-- a layout within the limits
pub record IsModest (l : Layout) : Type 0 where
  pub size : l.size ≤ size_limit
  pub positive : 0 < l.align
  pub align : l.align ≤ greatest_align

-- ---- structs and unions

-- a struct or union has this size, it is not complete, or it is over the limit
abbrev pub IsRecordRoom : Option Extent → Result (Option Room) LayoutFault → Type 0
IsRecordRoom o (Ok r) = o ≡ option_map room_extent r
IsRecordRoom o (Err f) = Exceeds o
