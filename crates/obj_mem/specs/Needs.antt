-- What a program asks of its map: its objects and functions, with the sizes and alignments of their types.
use Rattle.std.specs.Prelude.{ℕ, zero, suc, List, [], ◌∷◌, length, map, nat_le, Bool, true, false, not, Option, Some}
use Rattle.std.specs.Prelude.{None, slice_get, if◌then◌else◌}
use Rattle.std.specs.List.{filter}
use Rattle.cap_ops.specs.Permissions.{data_permissions, const_permissions}
use Rattle.c_tree.specs.Layout.{Extent, extent, size_limit}
use Rattle.c_tree.specs.TreeWeight.{function_weight}
use Rattle.c_tree.specs.declared.typed.Typed.{Typed}
use Rattle.c_tree.specs.declared.typed.CType.{CType}
use Rattle.c_tree.specs.declared.typed.CType.TheVariants as types
use Rattle.c_tree.specs.declared.typed.GlobalDef.{GlobalDef}
use Rattle.c_tree.specs.declared.typed.Literal.{Literal}
use Rattle.c_tree.specs.declared.typed.FunDef.{FunDef}
use Rattle.c_tree.specs.declared.typed.VarDef.{VarDef}
use Rattle.obj_mem.specs.declared.map.Map.{Map}
use Rattle.obj_mem.specs.Legal.{ObjectNeed, FunctionNeed, Needs, IsLegal}

-- ---- const types

-- A type whose objects are not written: a const one, or an array of such elements. (A struct with a const member is
-- none.)
abbrev pub is_const_of : Option CType → (ℕ → Bool) → Bool
is_const_of (Some (types.Const t)) go = true
is_const_of (Some (types.Array t n)) go = go t
is_const_of c go = false

unfoldable pub is_const_within : ℕ → List CType → ℕ → Bool
is_const_within zero types t = false
is_const_within (suc d) types t = is_const_of (slice_get types t) (is_const_within d types)

abbrev pub is_const : List CType → ℕ → Bool
is_const types t = is_const_within (length types) types t

-- ---- objects

-- A type that has no extent within the limit asks for nothing; no object of a program whose types fit has one
abbrev pub nothing_of : ℕ → ObjectNeed
nothing_of permissions = record { length = 0; align = 1; permissions = permissions }

abbrev pub need_by : Option Extent → ℕ → ObjectNeed
need_by None permissions = nothing_of permissions
need_by (Some x) permissions =
    if nat_le x.size size_limit then record { length = x.size; align = x.align; permissions = permissions }
    else nothing_of permissions

-- an object of a type
abbrev pub need_of : List CType → ℕ → ℕ → ObjectNeed
need_of types t permissions = need_by (extent types t) permissions

abbrev pub global_need : List CType → GlobalDef → ObjectNeed
global_need types g = need_of types g.of (if is_const types g.of then const_permissions else data_permissions)

-- a string literal is an array of bytes
abbrev pub literal_need : Literal → ObjectNeed
literal_need l = record { length = length l.bytes; align = 1; permissions = const_permissions }

-- ---- functions

-- a local that is an object
abbrev pub local_need : List CType → VarDef → ObjectNeed
local_need types v = need_of types v.of data_permissions

abbrev pub is_object : VarDef → Bool
is_object v = not v.simple

abbrev pub local_needs : List CType → FunDef → List ObjectNeed
local_needs types f = map (local_need types) (filter is_object f.vars)

-- functions from number f on, of the weights that `weight` gives them
abbrev pub function_needs : List CType → (ℕ → ℕ) → ℕ → List FunDef → List FunctionNeed
function_needs types weight f [] = []
function_needs types weight f (d ∷ ds) =
    record { locals = local_needs types d; weight = weight f } ∷ function_needs types weight (suc f) ds

-- of a program whose functions have these weights
abbrev pub needs_of : (ℕ → ℕ) → Typed → Needs
needs_of weight p = record {
  globals = map (global_need p.types) p.globals;
  literals = map literal_need p.literals;
  functions = function_needs p.types weight 0 p.funs;
}

-- ---- legal for a program

abbrev pub weight_by : Typed → Option FunDef → ℕ
weight_by p None = 0
weight_by p (Some d) = function_weight p d

-- the weight of function f
abbrev pub weight_in : Typed → ℕ → ℕ
weight_in p f = weight_by p (slice_get p.funs f)

-- A map is legal for a program
abbrev pub Legal : Typed → Map → Type 0
Legal p m = IsLegal (needs_of (weight_in p) p) m
