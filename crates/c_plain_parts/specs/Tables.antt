-- What counts of all that was said of each object and function: the first use, the last definition.
use Rattle.std.specs.Prelude.{◌≡◌, ℕ, ◌<◌, List, length, Option, Some, None, slice_get}
use Rattle.ck_base.specs.declared.positions.Pos.{Pos}
use Rattle.c_elaborator.specs.declared.work.Use.{Use}
use Rattle.c_elaborator.specs.declared.work.Definition.{Definition}
use Rattle.c_elaborator.specs.declared.work.Work.{Work}
use Rattle.c_elaborator.specs.Work.{first_place, is_object, is_function, definition_of}
use Rattle.c_plain_parts.specs.declared.tables.Uses.{Uses}

-- the places of the first uses
pub record HasUses (us : List Use) (t : Uses) : Type 0 where
  pub objects : (k : ℕ) (o : Option Pos) → slice_get t.objects.items k ≡ Some o → o ≡ first_place (is_object k) us
  pub functions : (k : ℕ) (o : Option Pos) → slice_get t.functions.items k ≡ Some o → o ≡ first_place (is_function k) us

-- those of a work, for each object and function
pub record AreUses (w : Work) (t : Uses) : Type 0 where
  pub uses : HasUses w.uses.items t
  pub objects : length t.objects.items ≡ length w.nodes.p.globals
  pub functions : length t.functions.items ≡ length w.nodes.p.funs

-- the item with this number
abbrev pub item_at : {A : Type 0} → List A → Option ℕ → Option A
item_at xs None = None
item_at xs (Some i) = slice_get xs i

-- the last definition of each function among the first ones
pub record LastDefinitions (ds first : List Definition) (t : List (Option ℕ)) : Type 0 where
  pub last : (k : ℕ) (o : Option ℕ) → slice_get t k ≡ Some o → item_at ds o ≡ definition_of k first
  pub there : (k i : ℕ) → slice_get t k ≡ Some (Some i) → i < length ds

-- that of each function of a work
pub record HasDefinitions (w : Work) (t : List (Option ℕ)) : Type 0 where
  pub are : LastDefinitions w.definitions.items w.definitions.items t
  pub count : length t ≡ length w.nodes.p.funs
