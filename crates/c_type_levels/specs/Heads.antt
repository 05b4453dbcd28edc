-- One level of a type.
use Rattle.std.specs.Prelude.{◌≡◌, ℕ, ◌<◌, List, [], map, slice_get, Some}
use Rattle.c_tree.specs.declared.typed.CType.{CType}
use Rattle.c_tree.specs.declared.typed.CType.TheVariants as ctypes
use Rattle.c_tree.specs.Types as types
use Rattle.c_tree.specs.Types.{Ty}
use Rattle.c_tree.specs.Views.{tys}
use Rattle.c_type_levels.specs.declared.heads.Head.{Head}
use Rattle.c_type_levels.specs.declared.heads.Head.TheVariants.{Void, Int, Cap, Pointer, Array, Tagged, Function, Const}

-- the type that a level makes of the types that its numbers name
abbrev pub built : Head → List ℕ → (ℕ → Ty) → Ty
built Void ps go = types.Void
built (Int k n) ps go = types.Int k n
built (Cap s) ps go = types.Cap s
built (Pointer t) ps go = types.Pointer (go t)
built (Array t n) ps go = types.Array (go t) n
built (Tagged n) ps go = types.Tagged n
built (Function t) ps go = types.Function (go t) (tys (map go ps))
built (Const t) ps go = types.Const (go t)

abbrev pub params_of : CType → List ℕ
params_of (ctypes.Function t ps) = ps
params_of c = []

-- a type that is no struct or union
abbrev pub IsPlain : CType → Type 0
IsPlain (ctypes.Struct n ms) = ⊥
IsPlain (ctypes.Union n ms) = ⊥
IsPlain (ctypes.Incomplete n) = ⊥
IsPlain c = Unit {0}

-- what holds of a type that the level names, but for the parameters
abbrev pub OfPart : (ℕ → Type 0) → Head → Type 0
OfPart P (Pointer t) = P t
OfPart P (Array t n) = P t
OfPart P (Function t) = P t
OfPart P (Const t) = P t
OfPart P h = Unit {0}

-- a type that the level names stands before a number
abbrev pub PartStandsBefore : Head → ℕ → Type 0
PartStandsBefore h k = OfPart (λ t. t < k) h

abbrev pub AllBefore : List ℕ → ℕ → Type 0
AllBefore ps k = (j p : ℕ) → slice_get ps j ≡ Some p → p < k
