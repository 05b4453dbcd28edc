-- Parts whose scalars are to be listed.
use Rattle.std.specs.Prelude.{◌≡◌, ℕ, suc, ◌+◌, ◌*◌, ◌^◌, ◌<◌, ◌≤◌, max, List, [], ◌∷◌, ◌++◌, map}
use Rattle.std.specs.List.{All}
use Rattle.c_tree.specs.Types.{Ty, Array, Const}
use Rattle.c_tree.specs.Scopes.{State}
use Rattle.c_tree.specs.Initializers.{repeat, scalars_of, tag_scalars}
use Rattle.c_tree.specs.Views.{types_of}
use Rattle.c_expressions.specs.Nodes.{type_in, type_count}
use Rattle.c_elaborator.specs.declared.work.Work.{Work}
use Rattle.c_elaborator.specs.Work.{Shows}
use Rattle.c_plain_rules.specs.Place.{Place}
use Rattle.c_initializers.specs.declared.scalars.Row.{Row}
use Rattle.c_initializers.specs.declared.covering.Extent.{Extent}
use Rattle.c_initializers.specs.Slots.{needed}
use Rattle.c_plain_rules.specs.Members.{place_in, IsPlaceThere}
use Rattle.c_initializers.specs.Sizes.{HasSize}

-- A part at an offset ends before 2 ^ 62, where structs and unions lie at most so many deep in one another there. In
-- each of them a part ends at most 2 ^ 28 bytes behind where it begins
pub record FitsAt (s : State) (t : Ty) (at tags : ℕ) : Type 0 where
  pub type : HasSize s t
  pub end : at + type.extent.size + tags * 2 ^ 28 ≤ 2 ^ 62

abbrev pub Fits : Work → Ty → ℕ → ℕ → Type 0
Fits w t at tags = (s : State) → Shows w s → FitsAt s t at tags

pub record IsRowThere (w : Work) (r : Row) : Type 0 where
  pub of : r.of < type_count w.nodes
  pub fits : (k : ℕ) → k < r.count → Fits w (type_in w.nodes r.of) (r.at + k * r.step) r.tags

abbrev pub row_scalars : Work → State → Row → List (ℕ × Ty)
row_scalars w s r = repeat r.count r.step (scalars_of s (tag_scalars r.tags s) (type_in w.nodes r.of)) r.at

-- the last row comes first
abbrev pub rows_scalars : Work → State → List Row → List (ℕ × Ty)
rows_scalars w s [] = []
rows_scalars w s (r ∷ rs) = rows_scalars w s rs ++ row_scalars w s r

-- ---- how many steps a walk may take yet

-- how deep arrays and words `const` lie in one another
abbrev pub height : Ty → ℕ
height (Array t n) = suc (height t)
height (Const t) = suc (height t)
height t = 0

abbrev pub greatest_height : List Ty → ℕ
greatest_height [] = 0
greatest_height (t ∷ ts) = max (height t) (greatest_height ts)

-- parts rank below the type that they are parts of
abbrev pub rank : Work → ℕ → Ty → ℕ
rank w tags t = tags * suc (greatest_height (types_of w.nodes.p.types)) + height t

-- no type has 2 ^ 64 parts at once
unfoldable pub type_steps : Work → ℕ → Ty → ℕ
type_steps w tags t = 2 ^ (66 * rank w tags t)

abbrev pub row_steps : Work → Row → ℕ
row_steps w r = (let n = type_steps w r.tags (type_in w.nodes r.of) in r.count * n + n)

abbrev pub rows_steps : Work → List Row → ℕ
rows_steps w [] = 0
rows_steps w (r ∷ rs) = row_steps w r + rows_steps w rs

-- ---- what a walk does

-- these come before those that were there, and take at most so many steps
pub record AddsRows (w : Work) (old new : List Row) (most : ℕ) (parts : State → List (ℕ × Ty)) : Type 0 where
  pub there : All (IsRowThere w) old → All (IsRowThere w) new
  pub are : (s : State) → Shows w s → rows_scalars w s new ≡ parts s ++ rows_scalars w s old
  pub steps : rows_steps w new ≤ rows_steps w old + most

-- those of these that get a value come behind those that are listed, and before those that were to be listed, and take
-- fewer steps than this
pub record Walks (w : Work) (es : List Extent) (rows : List Row) (places : List Place) (rows' : List Row)
    (places' : List Place)
    (most : ℕ) (parts : State → List (ℕ × Ty)) : Type 0 where
  pub rows_there : All (IsRowThere w) rows → All (IsRowThere w) rows'
  pub places_there : All (IsPlaceThere w) places → All (IsPlaceThere w) places'
  pub are : (s : State) → Shows w s →
      map (place_in w) places' ++ needed es (rows_scalars w s rows')
      ≡ map (place_in w) places ++ needed es (parts s ++ rows_scalars w s rows)
  pub steps : rows_steps w rows' < rows_steps w rows + most
