-- The types and the names before a file.
use Rattle.std.specs.Prelude.{◌≡◌, ℕ, ◌<◌, Bool, true, ◌&&◌, nat_lt, List, [], ◌∷◌, length, map, reverse, Some, None}
use Rattle.std.specs.Prelude.{slice_index}
use Rattle.std.specs.Borrow.{Bor}
use Rattle.c_tree.specs.Scopes as meant
use Rattle.c_tree.specs.Scopes.{Named}
use Rattle.c_tree.specs.Types as types
use Rattle.c_tree.specs.Types.{Ty, no_types, also}
use Rattle.c_tree.specs.Views.{forest, type_at}
use Rattle.c_types.specs.declared.beginning.Recipe.{Recipe}
use Rattle.c_types.specs.declared.beginning.Recipe.TheVariants.{Void, Int, Cap, Pointer, Nullary, Unary}
use Rattle.c_types.specs.declared.beginning.Known.{Known}
use Rattle.c_types.specs.declared.beginning.Known.TheVariants.{Alias, Typed, Untyped}
use Rattle.c_types.specs.declared.beginning.TheConstants.{RECIPES}
use Rattle.c_types.specs.declared.entries.Entity.{Entity}
use Rattle.c_types.specs.declared.entries.Entity.TheVariants as entities
use Rattle.c_types.specs.Stands.{named}

abbrev pub recipe_type : Recipe → (ℕ → Ty) → Ty
recipe_type Void go = types.Void
recipe_type (Int k n) go = types.Int k n
recipe_type (Cap s) go = types.Cap s
recipe_type (Pointer t) go = types.Pointer (go t)
recipe_type (Nullary r) go = types.Function (go r) no_types
recipe_type (Unary r t) go = types.Function (go r) (also (go t) no_types)

-- the types of the recipes, in their order
abbrev pub known : List Ty
known = forest recipe_type types.Void RECIPES

-- the entity that a name denotes, by the numbers of the types
abbrev pub recipe_entity : Known → List ℕ → Entity
recipe_entity (Alias t) ns = entities.Alias (slice_index ns t)
recipe_entity (Typed k t) ns = entities.Library k (Some (slice_index ns t))
recipe_entity (Untyped k) ns = entities.Library k None

-- the numbers are those of the recipes' types
pub record KnowsTypes (ts : List Ty) (ns : List ℕ) : Type 0 where
  pub count : length ns ≡ length RECIPES
  pub types : (k : ℕ) → k < length ns → named ts (slice_index ns k) ≡ Some (type_at known k)

-- what a name denotes
abbrev pub meaning : Known → meant.Entity
meaning (Alias t) = meant.Alias (type_at known t)
meaning (Typed k t) = meant.Library k (Some (type_at known t))
meaning (Untyped k) = meant.Library k None

abbrev pub Row : Type 0
Row = Bor (List ℕ) × Known

abbrev pub row_name : Row → Named meant.Entity
row_name r = record { name = r.0.now; is = meaning r.1 }

abbrev pub names_scope : List Row → meant.Scope
names_scope rows = record { names = map row_name (reverse rows); tags = [] }

-- each type is that of a recipe
abbrev pub refers_within : Known → Bool
refers_within (Alias t) = nat_lt t (length RECIPES)
refers_within (Typed n t) = nat_lt t (length RECIPES)
refers_within (Untyped n) = true

abbrev pub all_refer_within : List Row → Bool
all_refer_within [] = true
all_refer_within (r ∷ rs) = refers_within r.1 && all_refer_within rs
