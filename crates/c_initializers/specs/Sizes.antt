-- Types that have a size.
use Rattle.std.specs.Prelude.{◌≡◌, ℕ, ◌≤◌, Some}
use Rattle.c_tree.specs.Types.{Ty}
use Rattle.c_tree.specs.Layout.{Extent, size_limit}
use Rattle.c_tree.specs.Scopes.{State, type_extent}
use Rattle.c_expressions.specs.Nodes.{type_in}
use Rattle.c_elaborator.specs.declared.work.Work.{Work}
use Rattle.c_elaborator.specs.Work.{Shows}

-- it is complete, and within the limit
pub record HasSize (s : State) (t : Ty) : Type 0 where
  pub extent : Extent
  pub is : type_extent s.tags t ≡ Some extent
  pub small : extent.size ≤ size_limit

abbrev pub IsSized : Work → ℕ → Type 0
IsSized w of = (s : State) → Shows w s → HasSize s (type_in w.nodes of)
