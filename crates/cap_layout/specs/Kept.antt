-- Layouts that are kept for the types of a list.
use Rattle.std.specs.Prelude.{◌≡◌, ℕ, List, Option, Some, slice_get}
use Rattle.c_tree.specs.Layout.{extent}
use Rattle.c_tree.specs.declared.typed.CType.{CType}
use Rattle.cap_layout.specs.Answers.{Layout, Fits}

-- each entry that is there is the layout of its type
pub record AreLayoutsOf (types : List CType) (found : List (Option Layout)) : Type 0 where
  pub is : (t : ℕ) (l : Layout) → slice_get found t ≡ Some (Some l) → Fits (extent types t) l
