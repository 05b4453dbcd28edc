-- One level of a type.
use Rattle.std.specs.Prelude.{ℕ, List, []}
use Rattle.c_tree.specs.declared.typed.CType.{CType}
use Rattle.c_tree.specs.declared.typed.CType.TheVariants as ctypes
use Rattle.c_tree.specs.Types as types
use Rattle.c_tree.specs.Types.{Ty, Tys}
use Rattle.c_node_facts.specs.declared.classes.Class.{Class}
use Rattle.c_node_facts.specs.declared.classes.Class.TheVariants.{Void, Int, Cap, Pointer, Array, Tagged, Function}
use Rattle.c_node_facts.specs.declared.classes.Class.TheVariants.{Const}
use Rattle.c_node_facts.specs.declared.classes.Integer.{Integer}
use Rattle.c_node_facts.specs.declared.classes.Integer.TheVariants as integers

-- the type that a level makes of the types that its numbers name and of a function's parameters
abbrev pub class_type : Class → (ℕ → Ty) → Tys → Ty
class_type Void go ps = types.Void
class_type (Int k n) go ps = types.Int k n
class_type (Cap s) go ps = types.Cap s
class_type (Pointer t) go ps = types.Pointer (go t)
class_type (Array t n) go ps = types.Array (go t) n
class_type (Tagged n) go ps = types.Tagged n
class_type (Function t) go ps = types.Function (go t) ps
class_type (Const t) go ps = types.Const (go t)

abbrev pub params_of : CType → List ℕ
params_of (ctypes.Function t ps) = ps
params_of c = []

abbrev pub integer_type : Integer → Ty
integer_type (integers.Int k n) = types.Int k n
integer_type (integers.Cap s) = types.Cap s
