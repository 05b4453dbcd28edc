-- What is true of a typed program node by node, in terms of each node's own parts: the facts on which what is built
-- from it stands.
use Rattle.std.specs.Prelude.{◌≡◌, ℕ, zero, ◌+◌, ◌%◌, ◌^◌, ◌<◌, ◌≤◌, ◌⊎◌, Bool, true, false, List, [], ◌∷◌, ◌++◌}
use Rattle.std.specs.Prelude.{length, Some, slice_get}
use Rattle.cap_concentrate.specs.Rounding.{owned}
use Rattle.ck_int.specs.declared.kinds.IntKind.{IntKind}
use Rattle.ck_int.specs.declared.kinds.IntOp.{IntOp}
use Rattle.ck_int.specs.Kinds.{IsKept}
use Rattle.c_tree.specs.declared.typed.UnaryOp.{UnaryOp}
use Rattle.c_tree.specs.declared.typed.UnaryOp.TheVariants as unary
use Rattle.c_tree.specs.declared.typed.CType.TheVariants as ctypes
use Rattle.c_tree.specs.declared.typed.Member.{Member}
use Rattle.c_tree.specs.declared.typed.GlobalDef.{GlobalDef}
use Rattle.c_tree.specs.declared.typed.Literal.{Literal}
use Rattle.c_tree.specs.declared.typed.Link.{Link}
use Rattle.c_tree.specs.declared.typed.Target.{Target}
use Rattle.c_tree.specs.declared.typed.Target.TheVariants as targets
use Rattle.c_tree.specs.declared.typed.VarDef.{VarDef}
use Rattle.c_tree.specs.declared.typed.FunDef.{FunDef}
use Rattle.c_tree.specs.declared.typed.Typed.{Typed}
use Rattle.c_tree.specs.Layout.{Extent, extent, size_limit}
use Rattle.c_tree.specs.Layout as layout
use Rattle.c_tree.specs.Types.{Ty, Int, Cap, Pointer, Array, Tagged, Function, Tys, no_types, also, char, int, long}
use Rattle.c_tree.specs.Types.{bare, in_signature, is_function, is_integer, is_pointer, is_scalar, is_void, is_tagged}
use Rattle.c_tree.specs.Types.{is_capability, compatible, promoted, count}
use Rattle.c_tree.specs.Terms as tree
use Rattle.c_tree.specs.Terms.{Shape, Term, Terms, term, no_terms, with_term, type_of, Label, Form, Action, Actions}
use Rattle.c_tree.specs.Terms.{action, no_actions, with_action}
use Rattle.c_tree.specs.Conversions.{is_place, designates}
use Rattle.c_tree.specs.Expressions.{is_modifiable, is_shift, as_qualified, given_type}
use Rattle.c_tree.specs.Statics.{is_exact, is_near}
use Rattle.c_tree.specs.Libraries.{Asked, Any_capability, A, Service, services}
use Rattle.c_tree.specs.Views.{types_of, type_at, actions_of, action_at, IsOrdered, times_in}

-- ---- types

-- the type at a number
abbrev pub type_in : Typed → ℕ → Ty
type_in p k = type_at (types_of p.types) k

-- The program has the type at some number, with this extent, which is within the limit
pub record HasExtent (p : Typed) (t : Ty) (x : Extent) : Type 0 where
  pub number : ℕ
  pub there : number < length p.types
  pub is : type_in p number ≡ t
  pub extent_is : extent p.types number ≡ Some x
  pub within : x.size ≤ size_limit

abbrev pub IsComplete : Typed → Ty → Type 0
IsComplete p t = (x : Extent) × HasExtent p t x

-- what a pointer is moved over or points to
abbrev pub PointsToComplete : Typed → Ty → Type 0
PointsToComplete p t = (u : Ty) × (t ≡ Pointer u) × IsComplete p u

-- the members of the struct or union with a tag
abbrev pub HasMembers : Typed → ℕ → List Member → Type 0
HasMembers p tag ms = (k : ℕ) ×
    ((slice_get p.types k ≡ Some (ctypes.Struct tag ms)) ⊎ (slice_get p.types k ≡ Some (ctypes.Union tag ms)))

-- ---- expressions

-- where an expression stands: the program, the variables of its function, and what the function gives
pub record Frame : Type 0 where
  pub program : Typed
  pub vars : List VarDef
  pub gives : Ty

abbrev pub holds : Bool → Type 0
holds b = b ≡ true

abbrev pub IsInt : Ty → Type 0
IsInt t = (k : IntKind) × (n : ℕ) × (t ≡ Int k n)

abbrev pub IsCap : Ty → Type 0
IsCap t = (s : Bool) × (t ≡ Cap s)

-- both operands have the result's type; the right one of a shift may have another integer type
abbrev pub OperandsFit : IntOp → Ty → Ty → Ty → Type 0
OperandsFit o s u t = (s ≡ t) × holds (is_integer u) × ((u ≡ t) ⊎ holds (is_shift o))

-- the integer promotions leave the operands of an operation as they are (6.3.1.1p2)
abbrev pub ArePromoted : Ty → Ty → Type 0
ArePromoted s u = (promoted s ≡ s) × (promoted u ≡ u)

abbrev pub Decays : Ty → Ty → Type 0
Decays s t = ((e : Ty) × (n : ℕ) × (s ≡ Array e n) × (t ≡ Pointer e)) ⊎ (holds (is_function s) × (t ≡ Pointer s))

abbrev pub UnaryFits : UnaryOp → Ty → Ty → Type 0
UnaryFits unary.LogicalNot s t = holds (is_scalar s) × (t ≡ int)
UnaryFits o s t = holds (is_integer t) × (s ≡ t) × (promoted t ≡ t)

-- a pointer to a complete type and an integer, which may be taken from it
abbrev pub SumFits : Typed → Bool → Ty → Ty → Ty → Type 0
SumFits p minus s u t =
    PointsToComplete p t × (((s ≡ t) × holds (is_integer u)) ⊎ ((minus ≡ false) × holds (is_integer s) × (u ≡ t)))

abbrev pub CompoundFits : Typed → IntOp → Ty → Ty → Ty → Type 0
CompoundFits p o of u t =
    (PointsToComplete p t × (of ≡ t) × holds (is_integer u)) ⊎
    (holds (is_integer t) × OperandsFit o of u of × holds (is_integer of))

abbrev pub ArgumentsFit : Tys → Terms → Type 0
ArgumentsFit no_types no_terms = Unit {0}
ArgumentsFit (also t ts) (with_term x xs) = (type_of x ≡ t) × ArgumentsFit ts xs
ArgumentsFit ts xs = ⊥

abbrev pub AskedFits : Asked → Ty → Type 0
AskedFits Any_capability t = holds (is_capability t)
AskedFits (A u) t = t ≡ u

abbrev pub AllAskedFit : List Asked → Terms → Type 0
AllAskedFit [] no_terms = Unit {0}
AllAskedFit (a ∷ rest) (with_term x xs) = AskedFits a (type_of x) × AllAskedFit rest xs
AllAskedFit rest xs = ⊥

abbrev pub list_of : Terms → List Term
list_of no_terms = []
list_of (with_term x xs) = x ∷ list_of xs

-- a constant is the kept integer of its kind, or the address of a null capability
abbrev pub ConstantFits : Ty → ℕ → Type 0
ConstantFits (Int k n) v = IsKept k v
ConstantFits t v = v < 2 ^ 64

-- A node, its operands and its type. A name's type may know less than its object or function in the end: the length of
-- an array
abbrev pub ShapeFits : Frame → Shape → Terms → Ty → Type 0
ShapeFits f (tree.Constant n) no_terms t = ConstantFits (bare t) n × holds (is_scalar t)
ShapeFits f (tree.Literal k) no_terms t =
    (x : Literal) × (slice_get f.program.literals k ≡ Some x) × (t ≡ Array char (length x.bytes))
ShapeFits f (tree.Var k) no_terms t =
    (v : VarDef) × (slice_get f.vars k ≡ Some v) × holds (compatible t (type_in f.program v.of))
ShapeFits f (tree.Global k) no_terms t =
    (g : GlobalDef) × (slice_get f.program.globals k ≡ Some g) × holds (compatible t (type_in f.program g.of))
ShapeFits f (tree.Fun k) no_terms t =
    (g : FunDef) × (slice_get f.program.funs k ≡ Some g) × holds (compatible t (type_in f.program g.of))
ShapeFits f tree.Load (with_term a no_terms) t =
    holds (designates a) × (t ≡ bare (type_of a)) × (holds (is_scalar t) ⊎ holds (is_tagged t)) × IsComplete f.program t
ShapeFits f tree.Decay (with_term a no_terms) t = Decays (type_of a) t
ShapeFits f tree.Deref (with_term a no_terms) t =
    (type_of a ≡ Pointer t) × (IsComplete f.program t ⊎ holds (is_function t))
ShapeFits f (tree.Member k) (with_term a no_terms) t =
    (tag : ℕ) × (ms : List Member) × (m : Member) × (bare (type_of a) ≡ Tagged tag) × HasMembers f.program tag ms ×
    (slice_get ms k ≡ Some m)
    × (t ≡ as_qualified (type_of a) (type_in f.program m.of)) × IsComplete f.program (Tagged tag)
ShapeFits f tree.Address (with_term a no_terms) t =
    (holds (is_place a) ⊎ holds (is_function (type_of a))) × (t ≡ Pointer (type_of a))
ShapeFits f tree.Convert (with_term a no_terms) t =
    holds (is_void t) ⊎ (holds (is_scalar t) × holds (is_scalar (type_of a)))
ShapeFits f (tree.Unary o) (with_term a no_terms) t = UnaryFits o (type_of a) t
ShapeFits f (tree.Step adds in_front) (with_term a no_terms) t =
    holds (is_modifiable a) × (t ≡ bare (type_of a)) × (holds (is_integer t) ⊎ PointsToComplete f.program t)
ShapeFits f (tree.Arithmetic o) (with_term a (with_term b no_terms)) t =
    IsInt t × OperandsFit o (type_of a) (type_of b) t × ArePromoted (type_of a) (type_of b)
ShapeFits f (tree.Capability o r) (with_term a (with_term b no_terms)) t =
    IsCap t × OperandsFit o (type_of a) (type_of b) t × ArePromoted (type_of a) (type_of b)
ShapeFits f (tree.Plus minus) (with_term a (with_term b no_terms)) t = SumFits f.program minus (type_of a) (type_of b) t
ShapeFits f tree.Difference (with_term a (with_term b no_terms)) t =
    PointsToComplete f.program (type_of a) × PointsToComplete f.program (type_of b) × (t ≡ long)
ShapeFits f (tree.Compare o) (with_term a (with_term b no_terms)) t =
    (t ≡ int) × ((holds (is_integer (type_of a)) × (type_of a ≡ type_of b)) ⊎
    (holds (is_pointer (type_of a)) × holds (is_pointer (type_of b))))
ShapeFits f tree.And (with_term a (with_term b no_terms)) t =
    (t ≡ int) × holds (is_scalar (type_of a)) × holds (is_scalar (type_of b))
ShapeFits f tree.Or (with_term a (with_term b no_terms)) t =
    (t ≡ int) × holds (is_scalar (type_of a)) × holds (is_scalar (type_of b))
ShapeFits f tree.Comma (with_term a (with_term b no_terms)) t = t ≡ type_of b
ShapeFits f tree.Assign (with_term a (with_term b no_terms)) t =
    holds (is_modifiable a) × (t ≡ bare (type_of a)) × (type_of b ≡ t) × (holds (is_scalar t) ⊎ holds (is_tagged t)) ×
    IsComplete f.program t
ShapeFits f (tree.Compound o of) (with_term a (with_term b no_terms)) t =
    holds (is_modifiable a) × (t ≡ bare (type_of a)) × CompoundFits f.program o of (type_of b) t
ShapeFits f tree.Conditional (with_term a (with_term b (with_term c no_terms))) t =
    holds (is_scalar (type_of a)) × (type_of b ≡ t) × (type_of c ≡ t)
ShapeFits f tree.Call (with_term g xs) t =
    (r : Ty) × (ps : Tys) × (type_of g ≡ Pointer (Function r ps)) × ArgumentsFit ps xs × (t ≡ bare r)
ShapeFits f (tree.Library k) xs t =
    (s : Service) × (slice_get services k ≡ Some s) × AllAskedFit s.takes xs × (t ≡ given_type s.gives (list_of xs))
ShapeFits f n xs t = ⊥

unfoldable mutual
  pub TermFits : Frame → Term → Type 0
  TermFits f (term n xs t p) = TermsFit f xs × ShapeFits f n xs t

  pub TermsFit : Frame → Terms → Type 0
  TermsFit f no_terms = Unit {0}
  TermsFit f (with_term x xs) = TermFits f x × TermsFit f xs

-- ---- statements

-- where a statement stands: in a loop, or in a loop or switch
pub record Inside : Type 0 where
  pub loop : Bool
  pub breakable : Bool

abbrev pub in_loop : Inside
in_loop = record { loop = true; breakable = true }

abbrev pub in_switch : Inside → Inside
in_switch i = record { loop = i.loop; breakable = true }

-- how the parts of a statement stand
abbrev pub inside_of : Form → Inside → Inside
inside_of tree.While i = in_loop
inside_of tree.Do i = in_loop
inside_of (tree.For vars n a b) i = in_loop
inside_of (tree.Switch vars labels) i = in_switch i
inside_of x i = i

-- a variable that is no object gets a value of its own type, as a whole
abbrev pub WholeFits : Frame → VarDef → ℕ → Ty → Type 0
WholeFits f v offset t = v.simple ≡ true → (offset ≡ 0) × (t ≡ bare (type_in f.program v.of))

-- a value of a type at an offset lies in a variable
abbrev pub InitFits : Frame → ℕ → ℕ → Ty → Type 0
InitFits f var offset t =
    (v : VarDef) × (x y : Extent) × (slice_get f.vars var ≡ Some v) × HasExtent f.program (type_in f.program v.of) x ×
    HasExtent f.program t y × (offset + y.size ≤ x.size)
    × WholeFits f v offset t

abbrev pub AreVars : Frame → List ℕ → Type 0
AreVars f ks = (j k : ℕ) → slice_get ks j ≡ Some k → k < length f.vars

abbrev pub LabelsFit : List Label → ℕ → Type 0
LabelsFit ls n = (j : ℕ) (l : Label) → slice_get ls j ≡ Some l → l.before ≤ n

abbrev pub count_of : Actions → ℕ
count_of no_actions = 0
count_of (with_action x xs) = count_of xs + 1

abbrev pub IsTest : Terms → Type 0
IsTest (with_term a no_terms) = holds (is_scalar (type_of a))
IsTest xs = ⊥

-- the test and the step of a `for`
abbrev pub TestsFit : Bool → Bool → Terms → Type 0
TestsFit false false no_terms = Unit {0}
TestsFit false true (with_term b no_terms) = Unit {0}
TestsFit true false (with_term a no_terms) = holds (is_scalar (type_of a))
TestsFit true true (with_term a (with_term b no_terms)) = holds (is_scalar (type_of a))
TestsFit a b xs = ⊥

-- A statement, its expressions and how many parts it has
abbrev pub FormFits : Frame → Inside → Form → Terms → ℕ → Type 0
FormFits f i tree.Evaluate (with_term a no_terms) zero = Unit {0}
FormFits f i (tree.Init var offset) (with_term a no_terms) zero = InitFits f var offset (type_of a)
FormFits f i (tree.Block vars) no_terms n = AreVars f vars
FormFits f i tree.If xs n = IsTest xs × ((n ≡ 1) ⊎ (n ≡ 2))
FormFits f i tree.While xs n = IsTest xs × (n ≡ 1)
FormFits f i tree.Do xs n = IsTest xs × (n ≡ 1)
FormFits f i (tree.For vars k a b) xs n = AreVars f vars × TestsFit a b xs × (n ≡ k + 1)
FormFits f i (tree.Switch vars labels) (with_term a no_terms) n =
    AreVars f vars × holds (is_integer (type_of a)) × (promoted (type_of a) ≡ type_of a) × LabelsFit labels n
FormFits f i tree.Break no_terms zero = holds i.breakable
FormFits f i tree.Continue no_terms zero = holds i.loop
FormFits f i tree.Return no_terms zero = holds (is_void f.gives)
FormFits f i tree.Return (with_term a no_terms) zero = holds (compatible (type_of a) f.gives)
FormFits f i tree.Empty no_terms zero = Unit {0}
FormFits f i x xs n = ⊥

unfoldable mutual
  pub ActionFits : Frame → Inside → Action → Type 0
  ActionFits f i (action x xs ys p) = TermsFit f xs × FormFits f i x xs (count_of ys) × ActionsFit f (inside_of x i) ys

  pub ActionsFit : Frame → Inside → Actions → Type 0
  ActionsFit f i no_actions = Unit {0}
  ActionsFit f i (with_action x xs) = ActionFits f i x × ActionsFit f i xs

-- the variables that blocks declare
abbrev pub form_vars : Form → List ℕ
form_vars (tree.Block vars) = vars
form_vars (tree.For vars n a b) = vars
form_vars (tree.Switch vars labels) = vars
form_vars x = []

abbrev mutual
  pub declared : Action → List ℕ
  declared (action x xs ys p) = form_vars x ++ all_declared ys

  pub all_declared : Actions → List ℕ
  all_declared no_actions = []
  all_declared (with_action x xs) = declared x ++ all_declared xs

-- ---- functions and objects

abbrev pub outside : Inside
outside = record { loop = false; breakable = false }

abbrev pub ParametersFit : Typed → Tys → List VarDef → Type 0
ParametersFit p no_types vs = Unit {0}
ParametersFit p (also t ts) (v ∷ vs) = holds (compatible t (in_signature (type_in p v.of))) × ParametersFit p ts vs
ParametersFit p ts vs = ⊥

-- A function: its parameters come first and are the type's, and no block declares one; each other variable is declared
-- in one block; each has a complete type, and a variable that is no object has a scalar type
pub record FunctionFits (p : Typed) (f : FunDef) : Type 0 where
  pub result : Ty
  pub takes : Tys
  pub type_is : type_in p f.of ≡ Function result takes
  pub params_first : (k : ℕ) → k < length f.params → slice_get f.params k ≡ Some k
  pub params_count : length f.params ≡ count takes
  pub params_fit : ParametersFit p takes f.vars
  pub vars_complete : (k : ℕ) (v : VarDef) → slice_get f.vars k ≡ Some v → IsComplete p (type_in p v.of)
  pub simple_scalar : (k : ℕ) (v : VarDef) → slice_get f.vars k ≡ Some v → v.simple ≡ true →
      holds (is_scalar (bare (type_in p v.of)))
  pub params_apart : (k : ℕ) → k < length f.params → times_in k (declared (action_at (actions_of p) f.body)) ≡ 0
  pub declared_once : (k : ℕ) → length f.params ≤ k → k < length f.vars →
      times_in k (declared (action_at (actions_of p) f.body)) ≡ 1
  pub body : ActionFits (record { program = p; vars = f.vars; gives = bare result }) outside
      (action_at (actions_of p) f.body)

-- the bytes that a target owns; a function has none of its own
abbrev pub OwnsBytes : Typed → Target → ℕ → Type 0
OwnsBytes p (targets.Global k) n =
    (g : GlobalDef) × (x : Extent) × (slice_get p.globals k ≡ Some g) × HasExtent p (type_in p g.of) x ×
    (n ≡ owned x.size)
OwnsBytes p (targets.Literal k) n = (l : Literal) × (slice_get p.literals k ≡ Some l) × (n ≡ owned (length l.bytes))
OwnsBytes p (targets.Fun k) n = (k < length p.funs) × (n ≡ 0)

-- An initial pointer lies in the bytes of its object, and its bounds, which are exact, in its target; its address is
-- near them
pub record LinkFits (p : Typed) (size : ℕ) (l : Link) : Type 0 where
  pub inside : l.at + 16 ≤ size
  pub aligned : l.at % 16 ≡ 0
  pub target : ℕ
  pub owns : OwnsBytes p l.target target
  pub bounds : l.low + l.length ≤ target
  pub exact : holds (is_exact l.low l.length)
  pub near : holds (is_near l.low l.length l.offset)

pub record GlobalFits (p : Typed) (g : GlobalDef) : Type 0 where
  pub extent : Extent
  pub complete : HasExtent p (type_in p g.of) extent
  pub own : layout.extent p.types g.of ≡ Some extent
  pub bytes : length g.bytes ≤ extent.size
  pub links : (k : ℕ) (l : Link) → slice_get g.links k ≡ Some l → LinkFits p extent.size l

-- `main` takes nothing and gives an `int` (C11 5.1.2.2.1)
pub record MainFits (p : Typed) : Type 0 where
  pub main : FunDef
  pub there : slice_get p.funs p.main ≡ Some main
  pub type_is : type_in p main.of ≡ Function int no_types

-- the whole program
pub record WellTyped (p : Typed) : Type 0 where
  pub ordered : IsOrdered p
  pub globals : (k : ℕ) (g : GlobalDef) → slice_get p.globals k ≡ Some g → GlobalFits p g
  pub funs : (k : ℕ) (f : FunDef) → slice_get p.funs k ≡ Some f → FunctionFits p f
  pub main : MainFits p
