-- What is known of a type by its number.
use Rattle.std.specs.Prelude.{◌≡◌, ℕ, ◌<◌, ◌≤◌, ◌^◌, List, length, Option, Some, option_map, slice_get}
use Rattle.c_tree.specs.Layout.{bare, size_limit}
use Rattle.c_tree.specs.declared.typed.CType.{CType}
use Rattle.obj_mem.specs.Needs.{is_const}
use Rattle.cheri_c_sem.specs.Types.{size_in, align_in, scalar_of, is_record, is_void, is_pointer, pointee_of}
use Rattle.cheri_c_sem.specs.Types.{result_type_of}
use Rattle.mean_types.specs.Views.{kind_of}
use Rattle.mean_types.specs.declared.types.TypeFacts.{TypeFacts}

-- what a type is behind the words `const`
pub record AreOwn (o : Option CType) (f : TypeFacts) : Type 0 where
  pub kind : option_map kind_of f.kind ≡ scalar_of o
  pub pointer : f.pointer ≡ is_pointer o
  pub target : f.target ≡ pointee_of o
  pub void : f.void ≡ is_void o
  pub is_record : f.record ≡ is_record o
  pub gives : f.gives ≡ result_type_of o

-- And whether it is const, or an array of what is; and where its size is within the limit its size and its alignment
pub record AreFactsOf (types : List CType) (t : ℕ) (f : TypeFacts) : Type 0 where
  pub own : AreOwn (bare types t) f
  pub constant : f.constant ≡ is_const types t
  pub size : size_in types t ≤ size_limit → f.size ≡ size_in types t
  pub align : size_in types t ≤ size_limit → f.align ≡ align_in types t

-- a list has the facts of each type, in their order
pub record AreTypesOf (types : List CType) (facts : List TypeFacts) : Type 0 where
  pub count : length facts ≡ length types
  pub each : (t : ℕ) (f : TypeFacts) → t < 2 ^ 32 → slice_get facts t ≡ Some f → AreFactsOf types t f
