-- Parts of objects.
use Rattle.std.specs.Prelude.{◌≡◌, ℕ, suc, ◌+◌, ◌*◌, ◌^◌, ◌<◌, ◌≤◌, ◌||◌, nat_lt, ◌==◌, if◌then◌else◌}
use Rattle.std.specs.Prelude.{Option, Some, None, option_map, slice_get}
use Rattle.std.specs.List.{All}
use Rattle.c_tree.specs.Types.{Ty, Const}
use Rattle.c_tree.specs.Scopes.{State}
use Rattle.c_tree.specs.Initializers.{item_place}
use Rattle.c_expressions.specs.Nodes.{type_in, type_count}
use Rattle.c_elaborator.specs.declared.work.Work.{Work}
use Rattle.c_elaborator.specs.Work.{Shows}
use Rattle.c_plain_rules.specs.Place.{Place}
pub use Rattle.c_plain_rules.specs.Members.{place_in, IsPlaceThere}
use Rattle.c_initializers.specs.declared.places.Places.{Places}
use Rattle.c_initializers.specs.declared.places.Places.TheVariants.{Elements, Members, Alone}

-- a type without the words `const` before it
abbrev pub stripped : Ty → Ty
stripped (Const t) = stripped t
stripped t = t

-- the part of an item with a number
abbrev pub place_at : Places → ℕ → Option Place
place_at (Elements of size count) k =
    (if nat_lt k count || count == 0 then Some (record { at = k * size; of = of }) else None)
place_at (Members ps) k = slice_get ps.items k
place_at (Alone of) k = (if k == 0 then Some (record { at = 0; of = of }) else None)

-- a part begins at most 2 ^ 27 bytes further on for each item up to it
abbrev pub AreNear : Places → Type 0
AreNear x = (k : ℕ) (p : Place) → place_at x k ≡ Some p → p.at ≤ suc k * 2 ^ 27

abbrev pub ArePlacesThere : Work → Places → Type 0
ArePlacesThere w (Elements of size count) = of < type_count w.nodes
ArePlacesThere w (Members ps) = All (IsPlaceThere w) ps.items
ArePlacesThere w (Alone of) = of < type_count w.nodes

-- the parts of a type for the first so many items
pub record ArePlaces (w : Work) (of count : ℕ) (x : Places) : Type 0 where
  pub there : ArePlacesThere w x
  pub near : AreNear x
  pub are : (s : State) → Shows w s → (k : ℕ) → k < count →
      item_place s (type_in w.nodes of) k ≡ option_map (place_in w) (place_at x k)
