-- What is known of types, objects and functions by their numbers.
use Rattle.std.proofs.Common.{◌≡◌, ℕ, ◌≤◌, Option, Some, None, refl, sym, ap, ◌∙◌}
use Rattle.std.specs.Prelude.{option_map, slice_get}
use Rattle.c_interner.proofs.Growing.{type_at-past}
use Rattle.c_tree.specs.declared.typed.Typed.{Typed}
use Rattle.c_tree.specs.Declarations.{static_of}
use Rattle.c_tree.specs.Expressions.{routine_type}
use Rattle.c_tree.specs.Scopes.{StaticState, RoutineState, LocalState, State}
use Rattle.c_tree.specs.Types.{Ty}
use Rattle.c_tree.specs.Views.{types_of, type_at}
use Rattle.c_types.specs.Stands.{named}
use Rattle.c_types.proofs.Looking.{type_is}
use Rattle.c_expressions.specs.declared.nodes.Nodes.{Nodes}
use Rattle.c_expressions.specs.Nodes.{IsWhole, type_in, type_count}
use Rattle.c_elaborator.specs.declared.work.Work.{Work}
use Rattle.c_elaborator.specs.Rules.{IsObjectType, IsFunctionType}
use Rattle.c_elaborator.specs.Work.{Shows}

-- a number that names no type stands for `void`
pub void_past : (n : Nodes) (k : ℕ) → IsWhole n → type_count n ≤ k → type_in n n.void ≡ type_in n k
void_past n k w le = w.void ∙ sym (type_at-past n.p.types k le)

none : {G : Type 0} (of : G → Ty) (p : Typed) (o : Option G) →
    option_map (named (types_of p.types)) None ≡ option_map (λ g. Some (of g)) o → o ≡ None
none of p None e = refl
none of p (Some g) e = absurd cc

known : {G : Type 0} (of : G → Ty) (p : Typed) (t : ℕ) (o : Option G) →
    option_map (named (types_of p.types)) (Some t) ≡ option_map (λ g. Some (of g)) o →
    (g : G) × (o ≡ Some g) × (type_at (types_of p.types) t ≡ of g)
known of p t None e = absurd cc
known of p t (Some g) e = let f : named (types_of p.types) t ≡ Some (of g) = cc in (g, refl, type_is p t (of g) f)

-- what the list of objects has of one
abbrev pub OfObject : Work → ℕ → Option ℕ → Type 0
OfObject w k t = (s : State) → Shows w s → option_map (named (types_of w.nodes.p.types)) t
    ≡ option_map (λ (g : StaticState). Some g.of) (slice_get s.statics k)

abbrev pub OfFunction : Work → ℕ → Option ℕ → Type 0
OfFunction w k t = (s : State) → Shows w s → option_map (named (types_of w.nodes.p.types)) t
    ≡ option_map (λ (f : RoutineState). Some f.of) (slice_get s.routines k)

pub no_object : (w : Work) (k : ℕ) → OfObject w k None → IsObjectType w k None
no_object w k h s i = none (λ (g : StaticState). g.of) w.nodes.p (slice_get s.statics k) (h s i)

pub no_function : (w : Work) (k : ℕ) → OfFunction w k None → IsFunctionType w k None
no_function w k h s i = none (λ (f : RoutineState). f.of) w.nodes.p (slice_get s.routines k) (h s i)

pub object_known : (w : Work) (k t of : ℕ) → type_in w.nodes of ≡ type_in w.nodes t → OfObject w k (Some t) →
    IsObjectType w k (Some of)
object_known w k t of e h s i =
    let g = known (λ (x : StaticState). x.of) w.nodes.p t (slice_get s.statics k) (h s i) in (g.0, g.1, e ∙ g.2)

pub function_known : (w : Work) (k t of : ℕ) → type_in w.nodes of ≡ type_in w.nodes t → OfFunction w k (Some t) →
    IsFunctionType w k (Some of)
function_known w k t of e h s i =
    let f = known (λ (x : RoutineState). x.of) w.nodes.p t (slice_get s.routines k) (h s i) in (f.0, f.1, e ∙ f.2)

pub local_none : (p : Typed) (k : ℕ) (s : State) →
    option_map (named (types_of p.types)) None ≡ option_map (λ (v : LocalState). Some v.of) (slice_get s.locals k) →
    slice_get s.locals k ≡ None
local_none p k s e = none (λ (v : LocalState). v.of) p (slice_get s.locals k) e

pub local_known : (p : Typed) (k t : ℕ) (s : State) →
    option_map (named (types_of p.types)) (Some t) ≡ option_map (λ (v : LocalState). Some v.of) (slice_get s.locals k) →
    (v : LocalState) × (slice_get s.locals k ≡ Some v)
local_known p k t s e = let g = known (λ (v : LocalState). v.of) p t (slice_get s.locals k) e in (g.0, g.1)

-- ---- the types of all numbers

pub static_void : (w : Work) (k : ℕ) → IsWhole w.nodes → IsObjectType w k None → (s : State) → Shows w s →
    type_in w.nodes w.nodes.void ≡ static_of (slice_get s.statics k)
static_void w k h o s i = h.void ∙ sym (ap static_of (o s i))

pub static_is : (w : Work) (k of : ℕ) → IsObjectType w k (Some of) → (s : State) → Shows w s →
    type_in w.nodes of ≡ static_of (slice_get s.statics k)
static_is w k of o s i = let g = o s i in g.2 ∙ sym (ap static_of g.1)

pub routine_void : (w : Work) (k : ℕ) → IsWhole w.nodes → IsFunctionType w k None → (s : State) → Shows w s →
    type_in w.nodes w.nodes.void ≡ routine_type (slice_get s.routines k)
routine_void w k h o s i = h.void ∙ sym (ap routine_type (o s i))

pub routine_is : (w : Work) (k of : ℕ) → IsFunctionType w k (Some of) → (s : State) → Shows w s →
    type_in w.nodes of ≡ routine_type (slice_get s.routines k)
routine_is w k of o s i = let f = o s i in f.2 ∙ sym (ap routine_type f.1)
