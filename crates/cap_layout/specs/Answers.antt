-- What an answer says of the extent of a type.
use Rattle.std.specs.Prelude.{◌≡◌, ℕ, ◌<◌, ◌≤◌, Option, Some, None, Result, Ok, Err}
use Rattle.c_tree.specs.Layout.{Extent, size_limit}
pub use Rattle.cap_layout.specs.declared.answers.Layout.{Layout}
pub use Rattle.cap_layout.specs.declared.answers.Owned.{Owned}
pub use Rattle.cap_layout.specs.Extents.{extent_is, greatest_align}
use Rattle.cap_layout.specs.declared.answers.LayoutFault.{LayoutFault}
use Rattle.cap_layout.specs.declared.answers.LayoutFault.TheVariants as faults

-- a layout within the limits is the extent
pub record Fits (o : Option Extent) (l : Layout) : Type 0 where
  pub is : o ≡ Some (extent_is l)
  pub size : l.size ≤ size_limit
  pub positive : 0 < l.align
  pub align : l.align ≤ greatest_align

-- the extent is over the limit
pub record Exceeds (o : Option Extent) : Type 0 where
  pub extent : Extent
  pub is : o ≡ Some extent
  pub over : size_limit < extent.size

-- a type is too large exactly where its extent is over the limit, and not complete exactly where it has none
abbrev pub IsLayout : Option Extent → Result Layout LayoutFault → Type 0
IsLayout o (Ok l) = Fits o l
IsLayout o (Err faults.TooLarge) = Exceeds o
IsLayout o (Err faults.Incomplete) = o ≡ None

-- an offset in a type that has a layout, or why it has none
abbrev pub IsOffset : Option Extent → Option ℕ → Result ℕ LayoutFault → Type 0
IsOffset o at (Ok k) = (at ≡ Some k) × ((l : Layout) × Fits o l)
IsOffset o at (Err faults.TooLarge) = Exceeds o
IsOffset o at (Err faults.Incomplete) = o ≡ None
