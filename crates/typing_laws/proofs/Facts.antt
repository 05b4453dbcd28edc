-- What holds of each part of a program while it is typed, over the state so far, and how a state grows.
use Rattle.std.specs.Prelude.{◌≡◌, ℕ, ◌*◌, ◌<◌, ◌≤◌, ◌⊎◌, ℤ, Bool, true, false, List, [], ◌∷◌, length, Option, Some}
use Rattle.std.specs.Prelude.{None, slice_get, map}
use Rattle.ck_base.specs.declared.positions.Pos.{Pos}
use Rattle.ck_int.specs.declared.kinds.IntOp.{IntOp}
use Rattle.c_tree.specs.Layout.{Extent, size_limit}
use Rattle.c_tree.specs.Types.{Ty, Void, Int, Cap, Pointer, Array, Tagged, Function, Const, Tys, no_types, also, char}
use Rattle.c_tree.specs.Types.{int, long, bare, is_function, is_integer, is_pointer, is_scalar, is_void, is_tagged}
use Rattle.c_tree.specs.Terms as tree
use Rattle.c_tree.specs.Terms.{Shape, Term, Terms, term, no_terms, with_term, type_of, Text}
use Rattle.c_tree.specs.Scopes.{Entity, Local, Static, Routine, Alias, Enumerator, Library, Named, Scope, Part}
use Rattle.c_tree.specs.Scopes.{TagState, StaticState, LocalState, RoutineState, State, type_extent, innermost}
use Rattle.c_tree.specs.Scopes.{outer_scopes}
use Rattle.c_tree.specs.Conversions.{is_place, designates}
use Rattle.c_tree.specs.Expressions.{is_modifiable, as_qualified, given_type}
use Rattle.c_tree.specs.Declarators.{in_int, is_given, record_extent}
use Rattle.c_tree.specs.Declarations.{is_open}
use Rattle.c_tree.specs.Libraries.{Service, services}
use Rattle.c_tree.specs.TreeLayout.{tree_extent}
use Rattle.c_tree.specs.Programs.{tag_of}
use Rattle.c_tree.specs.WellTyped.{holds, IsInt, IsCap, OperandsFit, ArePromoted, Decays, UnaryFits, ArgumentsFit}
use Rattle.c_tree.specs.WellTyped.{AllAskedFit, list_of, ConstantFits}
use Rattle.typing_laws.proofs.Agreeing.{refines}

-- what is asked where the truth value says so
abbrev pub When : Bool → Type 0 → Type 0
When true A = A
When false A = Unit {0}

-- ---- types

abbrev pub Complete : List TagState → Ty → Type 0
Complete tags t = (x : Extent) × (type_extent tags t ≡ Some x)

-- and within the limit
abbrev pub Sized : List TagState → Ty → Type 0
Sized tags t = (x : Extent) × (type_extent tags t ≡ Some x) × (x.size ≤ size_limit)

abbrev pub may_be_const : Ty → Bool
may_be_const (Array t n) = false
may_be_const (Function r ps) = false
may_be_const (Const t) = false
may_be_const t = true

-- A type that declarators make: its structs and unions are there, arrays are within the limit, functions give and take
-- what they may, and a qualifier stands once
abbrev mutual
  pub TypeOk : List TagState → Ty → Type 0
  TypeOk tags Void = Unit {0}
  TypeOk tags (Int k n) = Unit {0}
  TypeOk tags (Cap s) = Unit {0}
  TypeOk tags (Pointer t) = TypeOk tags t
  TypeOk tags (Array t n) = TypeOk tags t × (x : Extent) × (type_extent tags t ≡ Some x) × (n * x.size ≤ size_limit)
  TypeOk tags (Tagged n) = n < length tags
  TypeOk tags (Function r ps) = TypeOk tags r × holds (is_given r) × TypesOk tags ps
  TypeOk tags (Const t) = TypeOk tags t × holds (may_be_const t)

  -- the parameters of a function have no qualifiers of their own
  pub TypesOk : List TagState → Tys → Type 0
  TypesOk tags no_types = Unit {0}
  TypesOk tags (also t ts) = TypeOk tags t × (bare t ≡ t) × TypesOk tags ts

-- the type of a value
pub data IsValue (tags : List TagState) (t : Ty) : Type 0 where
  scalar : holds (is_scalar t) → IsValue tags t
  nothing : t ≡ Void → IsValue tags t
  tagged : (n : ℕ) → t ≡ Tagged n → Complete tags t → IsValue tags t

abbrev pub PointsTo : List TagState → Ty → Type 0
PointsTo tags t = (u : Ty) × (t ≡ Pointer u) × Sized tags u

-- ---- expressions

abbrev pub IsUsed : Option Pos → Type 0
IsUsed u = (p : Pos) × (u ≡ Some p)

abbrev pub LiteralOk : Bool → State → ℕ → Ty → Type 0
LiteralOk m s k t = (n : ℕ) × (t ≡ Array char n) × (n ≤ size_limit) ×
    When m ((x : Text) × (slice_get s.texts k ≡ Some x) × (n ≡ length x.bytes))

abbrev pub LocalOk : State → ℕ → Ty → Type 0
LocalOk s k t = (v : LocalState) × (slice_get s.locals k ≡ Some v) × holds (refines t v.of)

abbrev pub StaticOk : State → ℕ → Ty → Type 0
StaticOk s k t = (g : StaticState) × (slice_get s.statics k ≡ Some g) × holds (refines t g.of) × IsUsed g.used

abbrev pub RoutineOk : State → ℕ → Ty → Type 0
RoutineOk s k t = (f : RoutineState) × (slice_get s.routines k ≡ Some f) × holds (refines t f.of) × IsUsed f.used

-- a name of an object
abbrev pub is_named : Term → Bool
is_named (term (tree.Var k) xs t p) = true
is_named (term (tree.Global k) xs t p) = true
is_named x = false

abbrev pub SumOk : List TagState → Bool → Ty → Ty → Ty → Type 0
SumOk tags minus s u t =
    PointsTo tags t × (((s ≡ t) × holds (is_integer u)) ⊎ ((minus ≡ false) × holds (is_integer s) × (u ≡ t)))

abbrev pub CompoundOk : List TagState → IntOp → Ty → Ty → Ty → Type 0
CompoundOk tags o of u t =
    (PointsTo tags t × (of ≡ t) × holds (is_integer u)) ⊎
    (holds (is_integer t) × OperandsFit o of u of × holds (is_integer of))

abbrev pub MemberOk : List TagState → Ty → ℕ → Ty → Type 0
MemberOk tags s k t =
    (n : ℕ) × (g : TagState) × (ms : List Part) × (m : Part) × (bare s ≡ Tagged n) × (slice_get tags n ≡ Some g) ×
    (g.members ≡ Some ms) × (slice_get ms k ≡ Some m)
    × (t ≡ as_qualified s m.of)

-- what a function that is called takes: complete types without qualifiers
abbrev pub AllTaken : List TagState → Tys → Type 0
AllTaken tags no_types = Unit {0}
AllTaken tags (also t ts) = (bare t ≡ t) × Complete tags t × AllTaken tags ts

abbrev pub ComparesOk : Ty → Ty → Type 0
ComparesOk s t = (holds (is_integer s) × (s ≡ t)) ⊎ (holds (is_pointer s) × holds (is_pointer t))

-- A node, its operands and its type. The numbers of names count where the truth value says so
abbrev pub ShapeOk : Bool → State → Shape → Terms → Ty → Type 0
ShapeOk m s (tree.Constant n) no_terms t = ConstantFits (bare t) n × holds (is_scalar t) × TypeOk s.tags t
ShapeOk m s (tree.Literal k) no_terms t = LiteralOk m s k t
ShapeOk m s (tree.Var k) no_terms t = When m (LocalOk s k t)
ShapeOk m s (tree.Global k) no_terms t = When m (StaticOk s k t)
ShapeOk m s (tree.Fun k) no_terms t = When m (RoutineOk s k t)
ShapeOk m s tree.Load (with_term a no_terms) t =
    holds (designates a) × (t ≡ bare (type_of a)) × IsValue s.tags t × (t ≡ Void → holds (is_named a))
ShapeOk m s tree.Decay (with_term a no_terms) t = Decays (type_of a) t
ShapeOk m s tree.Deref (with_term a no_terms) t = (type_of a ≡ Pointer t) × (Sized s.tags t ⊎ holds (is_function t))
ShapeOk m s (tree.Member k) (with_term a no_terms) t = MemberOk s.tags (type_of a) k t
ShapeOk m s tree.Address (with_term a no_terms) t =
    (holds (is_place a) ⊎ holds (is_function (type_of a))) × (t ≡ Pointer (type_of a))
ShapeOk m s tree.Convert (with_term a no_terms) t =
    (holds (is_void t) ⊎ (holds (is_scalar t) × holds (is_scalar (type_of a)))) × TypeOk s.tags t
ShapeOk m s (tree.Unary o) (with_term a no_terms) t = UnaryFits o (type_of a) t
ShapeOk m s (tree.Step adds in_front) (with_term a no_terms) t =
    holds (is_modifiable a) × (t ≡ bare (type_of a)) × (holds (is_integer t) ⊎ PointsTo s.tags t)
ShapeOk m s (tree.Arithmetic o) (with_term a (with_term b no_terms)) t =
    IsInt t × OperandsFit o (type_of a) (type_of b) t × ArePromoted (type_of a) (type_of b)
ShapeOk m s (tree.Capability o r) (with_term a (with_term b no_terms)) t =
    IsCap t × OperandsFit o (type_of a) (type_of b) t × ArePromoted (type_of a) (type_of b)
ShapeOk m s (tree.Plus minus) (with_term a (with_term b no_terms)) t = SumOk s.tags minus (type_of a) (type_of b) t
ShapeOk m s tree.Difference (with_term a (with_term b no_terms)) t =
    PointsTo s.tags (type_of a) × PointsTo s.tags (type_of b) × (t ≡ long)
ShapeOk m s (tree.Compare o) (with_term a (with_term b no_terms)) t = (t ≡ int) × ComparesOk (type_of a) (type_of b)
ShapeOk m s tree.And (with_term a (with_term b no_terms)) t =
    (t ≡ int) × holds (is_scalar (type_of a)) × holds (is_scalar (type_of b))
ShapeOk m s tree.Or (with_term a (with_term b no_terms)) t =
    (t ≡ int) × holds (is_scalar (type_of a)) × holds (is_scalar (type_of b))
ShapeOk m s tree.Comma (with_term a (with_term b no_terms)) t = t ≡ type_of b
ShapeOk m s tree.Assign (with_term a (with_term b no_terms)) t =
    holds (is_modifiable a) × (t ≡ bare (type_of a)) × (type_of b ≡ t) × (holds (is_scalar t) ⊎ holds (is_tagged t)) ×
    Complete s.tags t
ShapeOk m s (tree.Compound o of) (with_term a (with_term b no_terms)) t =
    holds (is_modifiable a) × (t ≡ bare (type_of a)) × CompoundOk s.tags o of (type_of b) t
ShapeOk m s tree.Conditional (with_term a (with_term b (with_term c no_terms))) t =
    holds (is_scalar (type_of a)) × (type_of b ≡ t) × (type_of c ≡ t)
ShapeOk m s tree.Call (with_term g xs) t =
    (r : Ty) × (ps : Tys) × (type_of g ≡ Pointer (Function r ps)) × ArgumentsFit ps xs × (t ≡ bare r) ×
    IsValue s.tags t × AllTaken s.tags ps
ShapeOk m s (tree.Library k) xs t =
    (f : Service) × (slice_get services k ≡ Some f) × AllAskedFit f.takes xs × (t ≡ given_type f.gives (list_of xs))
ShapeOk m s n xs t = ⊥

abbrev mutual
  pub TermOk : Bool → State → Term → Type 0
  TermOk m s (term n xs t p) = TermsOk m s xs × ShapeOk m s n xs t

  pub TermsOk : Bool → State → Terms → Type 0
  TermsOk m s no_terms = Unit {0}
  TermsOk m s (with_term x xs) = TermOk m s x × TermsOk m s xs

-- an operand, before it is read
pub record OperandOk (m : Bool) (s : State) (x : Term) : Type 0 where
  pub fits : TermOk m s x
  pub type : TypeOk s.tags (type_of x)
  pub valued : designates x ≡ false → holds (is_function (type_of x)) ⊎ IsValue s.tags (type_of x)
  pub placed : designates x ≡ true → bare (type_of x) ≡ Void → holds (is_named x)

-- and once it is read
pub record ValueOk (m : Bool) (s : State) (x : Term) : Type 0 where
  pub fits : TermOk m s x
  pub type : TypeOk s.tags (type_of x)
  pub value : IsValue s.tags (type_of x)

-- ---- the state

-- a member
pub record PartOk (tags : List TagState) (m : Part) : Type 0 where
  pub type : TypeOk tags m.of
  pub complete : Complete tags m.of

-- A struct or union that is complete was opened, and has the layout of its members, at some number of levels and within
-- the limit
pub record TagOk (tags : List TagState) (n : ℕ) (t : TagState) : Type 0 where
  pub unknown : t.members ≡ None → t.extent ≡ None
  pub known : (ms : List Part) → t.members ≡ Some ms →
      (t.begun ≡ true) × (x : Extent) × (t.extent ≡ Some x) × (record_extent tags t.kind ms ≡ Some x) ×
      (x.size ≤ size_limit)
  pub parts : (ms : List Part) (k : ℕ) (m : Part) → t.members ≡ Some ms → slice_get ms k ≡ Some m → PartOk tags m
  pub laid : (x : Extent) → t.extent ≡ Some x → (d : ℕ) × (tree_extent d (map tag_of tags) (Tagged n) ≡ Some x)

-- what a name denotes
abbrev pub EntityOk : Bool → State → Entity → Type 0
EntityOk m s (Local k t) = TypeOk s.tags t × When m (LocalOk s k t)
EntityOk m s (Static k) = When m (k < length s.statics)
EntityOk m s (Routine k) = When m (k < length s.routines)
EntityOk m s (Alias t) = TypeOk s.tags t
EntityOk m s (Enumerator z) = holds (in_int z)
EntityOk m s (Library k t) = Unit {0}

abbrev pub AllNames : (Entity → Type 0) → List (Named Entity) → Type 0
AllNames P [] = Unit {0}
AllNames P (x ∷ xs) = P x.is × AllNames P xs

abbrev pub AllScopes : (Entity → Type 0) → List Scope → Type 0
AllScopes P [] = Unit {0}
AllScopes P (c ∷ cs) = AllNames P c.names × AllScopes P cs

-- what holds between the steps of typing
pub record Inv (m : Bool) (s : State) : Type 0 where
  pub tags : (k : ℕ) (t : TagState) → slice_get s.tags k ≡ Some t → TagOk s.tags k t
  pub names : AllScopes (EntityOk m s) s.scopes
  pub statics : (k : ℕ) (g : StaticState) → slice_get s.statics k ≡ Some g → TypeOk s.tags g.of
  pub routines : (k : ℕ) (f : RoutineState) → slice_get s.routines k ≡ Some f →
      TypeOk s.tags f.of × holds (is_function f.of)
  pub locals : (k : ℕ) (v : LocalState) → slice_get s.locals k ≡ Some v → TypeOk s.tags v.of

-- ---- growth

-- a tag that is complete stays as it is
pub record TagGrows (t u : TagState) : Type 0 where
  pub kind : t.kind ≡ u.kind
  pub known : (x : Extent) → t.extent ≡ Some x → u ≡ t
  pub parts : (ms : List Part) → t.members ≡ Some ms → u ≡ t

abbrev pub TagsGrow : List TagState → List TagState → Type 0
TagsGrow ts us = (k : ℕ) (t : TagState) → slice_get ts k ≡ Some t →
    (u : TagState) × (slice_get us k ≡ Some u) × TagGrows t u

-- and behind a step one that is opened does
abbrev pub OpenStay : List TagState → List TagState → Type 0
OpenStay ts us = (k : ℕ) (t : TagState) → slice_get ts k ≡ Some t → t.begun ≡ true → slice_get us k ≡ Some t

-- types of objects and functions are refined, and uses stay
pub record StaticGrows (g h : StaticState) : Type 0 where
  pub type : holds (refines g.of h.of)
  pub used : IsUsed g.used → IsUsed h.used

pub record RoutineGrows (g h : RoutineState) : Type 0 where
  pub type : holds (refines g.of h.of)
  pub used : IsUsed g.used → IsUsed h.used

pub record LocalGrows (g h : LocalState) : Type 0 where
  pub type : holds (refines g.of h.of)
  pub fixed : is_open g.of ≡ false → h.of ≡ g.of

-- what terms speak of
pub record Refers (s r : State) : Type 0 where
  pub tags : TagsGrow s.tags r.tags
  pub statics : (k : ℕ) (g : StaticState) → slice_get s.statics k ≡ Some g →
      (h : StaticState) × (slice_get r.statics k ≡ Some h) × StaticGrows g h
  pub routines : (k : ℕ) (g : RoutineState) → slice_get s.routines k ≡ Some g →
      (h : RoutineState) × (slice_get r.routines k ≡ Some h) × RoutineGrows g h
  pub texts : (k : ℕ) (x : Text) → slice_get s.texts k ≡ Some x → slice_get r.texts k ≡ Some x
  pub locals : (k : ℕ) (v : LocalState) → slice_get s.locals k ≡ Some v →
      (w : LocalState) × (slice_get r.locals k ≡ Some w) × LocalGrows v w

-- enumeration constants stand in front
pub data Adds (xs : List (Named Entity)) : List (Named Entity) → Type 0 where
  none : Adds xs xs
  one : {ys : List (Named Entity)} (name : List ℕ) (z : ℤ) → holds (in_int z) → Adds xs ys →
      Adds xs (record { name = name; is = Enumerator z } ∷ ys)

-- the objects and the functions are the same up to their uses, the locals up to whether their address is taken, and
-- nothing new waits for the end of the file
abbrev pub unused_static : StaticState → StaticState
unused_static g = record g { used = None }

abbrev pub unused_routine : RoutineState → RoutineState
unused_routine f = record f { used = None }

abbrev pub untaken_local : LocalState → LocalState
untaken_local v = record v { addressed = false }

pub record Still (s r : State) : Type 0 where
  pub locals : map untaken_local r.locals ≡ map untaken_local s.locals
  pub statics : map unused_static r.statics ≡ map unused_static s.statics
  pub routines : map unused_routine r.routines ≡ map unused_routine s.routines
  pub pending : r.pending ≡ s.pending

-- A state behind a step. Outer scopes stay, and behind an expression, a specifier or a declarator the innermost has new
-- enumeration constants at most
pub record Grows (e : Bool) (s r : State) : Type 0 where
  pub refers : Refers s r
  pub opened : OpenStay s.tags r.tags
  pub outer : outer_scopes r.scopes ≡ outer_scopes s.scopes
  pub deep : length r.scopes ≡ length s.scopes
  pub names : When e (Adds (innermost s.scopes).names (innermost r.scopes).names)
  pub count : When e (length r.locals ≡ length s.locals)
  pub still : When e (Still s r)
  pub statics : length s.statics ≤ length r.statics
  pub routines : length s.routines ≤ length r.routines

-- a step from a state to a result and a state
pub record Kept {A : Type 0} (m e : Bool) (s : State) (Q : State → A → Type 0) (x : A × State) : Type 0 where
  pub inv : Inv m x.1
  pub grown : Grows e s x.1
  pub post : Q x.1 x.0
