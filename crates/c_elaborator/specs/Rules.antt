-- What names, string literals and pointers that are dereferenced give.
use Rattle.std.specs.Prelude.{◌≡◌, ℕ, nat_le, List, [], ◌∷◌, ◌++◌, length, Option, Some, None, slice_get}
use Rattle.ck_int.specs.Kinds.{kept_of}
use Rattle.ck_base.specs.declared.positions.Pos.{Pos}
use Rattle.c_tree.specs.Terms.{Shape, Constant, Literal, Var, Global, Fun, Term, Deref, leaf, step}
use Rattle.c_tree.specs.Layout.{size_limit}
use Rattle.c_tree.specs.Types.{Ty, Pointer, Array, char, int}
use Rattle.c_tree.specs.Scopes.{StaticState, RoutineState, State, Doing, look, change, refuse, need}
use Rattle.c_tree.specs.Scopes.{use_static, use_routine, ◌>>=◌, ◌>>◌}
use Rattle.c_tree.specs.Conversions.{Operand}
use Rattle.c_tree.specs.Expressions.{gives, static_type, routine_type, pointed}
use Rattle.c_types.specs.declared.entries.Entity.{Entity}
use Rattle.c_types.specs.declared.entries.Entity.TheVariants as entities
use Rattle.c_expressions.specs.declared.nodes.Nodes.{Nodes}
use Rattle.c_expressions.specs.Nodes.{type_in}
use Rattle.c_elaborator.specs.declared.work.Work.{Work}
use Rattle.c_elaborator.specs.Work.{Shows}

-- what a pointer to a type points to
abbrev pub dereferencing : Ty → Term → Pos → Pos → Doing Operand
dereferencing u x p first = pointed (Pointer u) first >>= λ t. gives (step Deref x t p) first

-- ---- names

-- an expression without operands, where its first byte stands
abbrev pub giving_leaf : Shape → Ty → Pos → Doing Operand
giving_leaf n t p = gives (leaf n t p) p

abbrev pub using_object : ℕ → Pos → Doing Operand
using_object k p = change (use_static k p) >> look
    >>= λ s. giving_leaf (Global k) (static_type (slice_get s.statics k)) p

abbrev pub using_function : ℕ → Pos → Doing Operand
using_function k p = change (use_routine k p) >> look
    >>= λ s. giving_leaf (Fun k) (routine_type (slice_get s.routines k)) p

-- what a name gives that denotes this, with the types that numbers name
abbrev pub denoting : Nodes → Option Entity → Pos → Doing Operand
denoting n None p = refuse 130 p
denoting n (Some (entities.Local k of)) p = giving_leaf (Var k) (type_in n of) p
denoting n (Some (entities.Static k)) p = using_object k p
denoting n (Some (entities.Routine k)) p = using_function k p
denoting n (Some (entities.Enumerator z)) p = giving_leaf (Constant (kept_of z)) int p
denoting n (Some (entities.Alias of)) p = refuse 133 p
denoting n (Some (entities.Library k of)) p = refuse 133 p

-- what is known of the type of an object of static storage duration, and of a function: that a number names it, or that
-- there is none
abbrev pub IsObjectType : Work → ℕ → Option ℕ → Type 0
IsObjectType w k None = (s : State) → Shows w s → slice_get s.statics k ≡ None
IsObjectType w k (Some of) = (s : State) → Shows w s →
    (g : StaticState) × (slice_get s.statics k ≡ Some g) × (type_in w.nodes of ≡ g.of)

abbrev pub IsFunctionType : Work → ℕ → Option ℕ → Type 0
IsFunctionType w k None = (s : State) → Shows w s → slice_get s.routines k ≡ None
IsFunctionType w k (Some of) = (s : State) → Shows w s →
    (f : RoutineState) × (slice_get s.routines k ≡ Some f) × (type_in w.nodes of ≡ f.of)

-- ---- string literals

-- a literal with these bytes, the zero among them
abbrev pub writing : List ℕ → Pos → Doing Operand
writing bs p = look >>= λ s.
    need (nat_le (length bs) size_limit) 140 p >>
    change (λ t. record t { texts = t.texts ++ record { place = p; bytes = bs } ∷ [] }) >>
    gives (leaf (Literal (length s.texts)) (Array char (length bs)) p) p
