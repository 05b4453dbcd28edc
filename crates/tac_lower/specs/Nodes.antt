-- The expressions of a function of a typed program: how their values are kept, and what is known of each and its
-- operands.
use Rattle.std.specs.Prelude.{◌≡◌, ℕ, ◌+◌, ◌<◌, ◌≤◌, ◌⊎◌, Bool, true, false, Option, Some, None, List, length, map}
use Rattle.std.specs.Prelude.{sum_by}
use Rattle.std.specs.Prelude.{slice_get}
use Rattle.ck_int.specs.declared.kinds.IntKind.{IntKind}
use Rattle.ck_int.specs.declared.kinds.IntKind.TheVariants as int
use Rattle.ck_int.specs.declared.kinds.IntOp.{IntOp}
use Rattle.c_tree.specs.declared.typed.ExprKind.{ExprKind}
use Rattle.c_tree.specs.declared.typed.ExprKind.TheVariants as exprs
use Rattle.c_tree.specs.declared.typed.UnaryOp.{UnaryOp}
use Rattle.c_tree.specs.declared.typed.UnaryOp.TheVariants as unary
use Rattle.c_tree.specs.declared.typed.FunDef.{FunDef}
use Rattle.c_tree.specs.declared.typed.Typed.{Typed}
use Rattle.c_tree.specs.declared.typed.VarDef.{VarDef}
use Rattle.cheri_c_sem.specs.Types.{is_shift}
use Rattle.c_tree.specs.Conversions.{is_place}
use Rattle.c_tree.specs.Expressions.{given_type}
use Rattle.c_tree.specs.Libraries.{Service, services}
use Rattle.c_tree.specs.Terms.{Term, type_of, terms}
use Rattle.c_tree.specs.TreeWeight.{term_weight}
use Rattle.c_tree.specs.Types.{Ty, Tys, Int, Cap, Pointer, Function, Const, bare, compatible}
use Rattle.c_tree.specs.Views.{terms_of, term_at}
use Rattle.c_tree.specs.WellTyped.{PointsToComplete}
use Rattle.c_tree.specs.WellTyped.{Frame, TermFits, type_in, ArgumentsFit, AllAskedFit, IsComplete, list_of}
use Rattle.tac_ir.specs.WellFormed.{constant_fits}
use Rattle.tac_ir.specs.declared.code.TacKind.{TacKind}
use Rattle.tac_ir.specs.declared.code.TacKind.TheVariants as kinds
use Rattle.tac_lower.specs.Copied.{copied_in, copies_in, all_copies_in}
use Rattle.tac_lower.specs.Operands.{RightFits, ComputedFits}

-- how the scalars of a type are kept
abbrev pub kept_as : Ty → Option TacKind
kept_as (Int k n) = Some (kinds.Int k)
kept_as (Cap signed) = Some (kinds.Cap signed)
kept_as (Pointer t) = Some (kinds.Cap false)
kept_as (Const t) = kept_as t
kept_as t = None

-- it is a pointer
abbrev pub points : Ty → Bool
points (Pointer t) = true
points (Const t) = points t
points t = false

abbrev pub or_int : Option TacKind → TacKind
or_int None = kinds.Int int.I32
or_int (Some k) = k

-- the kind of what a unary operation gives
abbrev pub unary_kind : UnaryOp → TacKind → TacKind
unary_kind unary.LogicalNot k = kinds.Int int.I32
unary_kind unary.Plus k = k
unary_kind unary.Minus k = k
unary_kind unary.Complement k = k

-- expression k
abbrev pub expression : Typed → ℕ → Term
expression p k = term_at (terms_of p) k

abbrev pub scalar_in : Typed → ℕ → Option TacKind
scalar_in p k = kept_as (type_of (expression p k))

-- the kind of its value; where it is no scalar, that of an `int`
abbrev pub kind_in : Typed → ℕ → TacKind
kind_in p k = or_int (scalar_in p k)

abbrev pub weight_in : Typed → ℕ → ℕ
weight_in p k = term_weight (expression p k)

-- the variables of a function, and what it gives
abbrev pub frame : Typed → FunDef → Ty → Frame
frame p d gives = record { program = p; vars = d.vars; gives = gives }

-- an expression of a function is well typed
pub record IsTyped (f : Frame) (k : ℕ) : Type 0 where
  pub fits : TermFits f (expression f.program k)

-- its value is a scalar of a kind
pub record IsScalar (p : Typed) (k : ℕ) (j : TacKind) : Type 0 where
  pub is : scalar_in p k ≡ Some j

-- ---- an expression by its kind

-- one operand, or two
pub record HasOne (f : Frame) (k a : ℕ) : Type 0 where
  pub operand : IsTyped f a
  pub weight : weight_in f.program k ≡ 1 + weight_in f.program a
  pub copies : copies_in f.program a ≤ copies_in f.program k

pub record HasTwo (f : Frame) (k a b : ℕ) : Type 0 where
  pub left : IsTyped f a
  pub right : IsTyped f b
  pub weight : weight_in f.program k ≡ 1 + weight_in f.program a + weight_in f.program b
  pub copies : copies_in f.program a + copies_in f.program b ≤ copies_in f.program k

pub record HasThree (f : Frame) (k a b c : ℕ) : Type 0 where
  pub first : IsTyped f a
  pub second : IsTyped f b
  pub third : IsTyped f c
  pub weight : weight_in f.program k ≡ 1 + weight_in f.program a + weight_in f.program b + weight_in f.program c
  pub copies : copies_in f.program a + copies_in f.program b + copies_in f.program c ≤ copies_in f.program k

pub record ConstantNode (f : Frame) (k n : ℕ) : Type 0 where
  pub kind : TacKind
  pub is : IsScalar f.program k kind
  pub fits : constant_fits kind n ≡ true

-- an operation on plain integers
pub record IntNode (f : Frame) (k : ℕ) (o : IntOp) (a b : ℕ) : Type 0 where
  pub operands : HasTwo f k a b
  pub kind : IntKind
  pub is : IsScalar f.program k (kinds.Int kind)
  pub left : IsScalar f.program a (kinds.Int kind)
  pub count : TacKind
  pub right : IsScalar f.program b count
  pub right_fits : RightFits (is_shift o) kind count

-- an operation on capability integers, whose result may derive from the right operand only where this one is no shift's
-- count
pub record CapabilityNode (f : Frame) (k : ℕ) (o : IntOp) (a b : ℕ) : Type 0 where
  pub operands : HasTwo f k a b
  pub signed : Bool
  pub is : IsScalar f.program k (kinds.Cap signed)
  pub left : IsScalar f.program a (kinds.Cap signed)
  pub count : TacKind
  pub right : IsScalar f.program b count

-- a value that is kept as the operand's is, where it is a scalar
pub record SameNode (f : Frame) (k a : ℕ) : Type 0 where
  pub operands : HasOne f k a
  pub same : scalar_in f.program a ≡ scalar_in f.program k

-- `!`
pub record NotNode (f : Frame) (k a : ℕ) : Type 0 where
  pub operands : HasOne f k a
  pub kind : TacKind
  pub value : IsScalar f.program a kind
  pub is : IsScalar f.program k (kinds.Int int.I32)

abbrev pub UnaryNode : Frame → ℕ → UnaryOp → ℕ → Type 0
UnaryNode f k unary.LogicalNot a = NotNode f k a
UnaryNode f k unary.Plus a = SameNode f k a
UnaryNode f k unary.Minus a = SameNode f k a
UnaryNode f k unary.Complement a = SameNode f k a

-- a pointer to a place or a function
pub record AddressNode (f : Frame) (k a : ℕ) : Type 0 where
  pub operands : HasOne f k a
  pub is : IsScalar f.program k (kinds.Cap false)

-- what a pointer points to
pub record DerefNode (f : Frame) (k a : ℕ) : Type 0 where
  pub operands : HasOne f k a
  pub operand : IsScalar f.program a (kinds.Cap false)

-- a pointer and an integer, in either order
pub record SumNode (f : Frame) (k a b : ℕ) : Type 0 where
  pub operands : HasTwo f k a b
  pub is : IsScalar f.program k (kinds.Cap false)
  pub indexed :
      points (type_of (expression f.program a)) ≡ true →
      PointsToComplete f.program (type_of (expression f.program a)) × ((j : TacKind) × IsScalar f.program b j)
  pub indexes :
      points (type_of (expression f.program a)) ≡ false →
      PointsToComplete f.program (type_of (expression f.program b)) × ((j : TacKind) × IsScalar f.program a j)
  pub pointer :
      ((points (type_of (expression f.program a)) ≡ true) × IsScalar f.program a (kinds.Cap false))
      ⊎ ((points (type_of (expression f.program a)) ≡ false) × IsScalar f.program b (kinds.Cap false))

-- a comparison
pub record CompareNode (f : Frame) (k a b : ℕ) : Type 0 where
  pub operands : HasTwo f k a b
  pub kind : TacKind
  pub left : IsScalar f.program a kind
  pub is : IsScalar f.program k (kinds.Int int.I32)
  pub same : scalar_in f.program a ≡ scalar_in f.program b

-- `&&` and `||`
pub record TruthNode (f : Frame) (k a b : ℕ) : Type 0 where
  pub operands : HasTwo f k a b
  pub is : IsScalar f.program k (kinds.Int int.I32)
  pub left_kind : TacKind
  pub left : IsScalar f.program a left_kind
  pub right_kind : TacKind
  pub right : IsScalar f.program b right_kind

-- the difference of two pointers
pub record DifferenceNode (f : Frame) (k a b : ℕ) : Type 0 where
  pub operands : HasTwo f k a b
  pub is : IsScalar f.program k (kinds.Int int.I64)
  pub pointed : PointsToComplete f.program (type_of (expression f.program a))
  pub left : IsScalar f.program a (kinds.Cap false)
  pub right : IsScalar f.program b (kinds.Cap false)

-- the right operand of a comma is kept as its value
pub record CommaNode (f : Frame) (k a b : ℕ) : Type 0 where
  pub operands : HasTwo f k a b
  pub right : scalar_in f.program b ≡ scalar_in f.program k

-- both operands of an assignment are kept as its value, which may be copied
pub record AssignNode (f : Frame) (k a b : ℕ) : Type 0 where
  pub operands : HasTwo f k a b
  pub copies : copied_in f.program k + copies_in f.program a + copies_in f.program b ≡ copies_in f.program k
  pub left : scalar_in f.program a ≡ scalar_in f.program k
  pub right : scalar_in f.program b ≡ scalar_in f.program k
  pub named : is_place (expression f.program a) ≡ true
  pub place : type_of (expression f.program k) ≡ bare (type_of (expression f.program a))
  pub value : type_of (expression f.program b) ≡ type_of (expression f.program k)
  pub complete : IsComplete f.program (type_of (expression f.program k))

-- a compound assignment: a pointer is moved by elements, and else integers are computed in a type
pub record CompoundNode (f : Frame) (k : ℕ) (o : IntOp) (a b t : ℕ) : Type 0 where
  pub operands : HasTwo f k a b
  pub left : scalar_in f.program a ≡ scalar_in f.program k
  pub count : TacKind
  pub right : IsScalar f.program b count
  pub pointed : points (type_in f.program t) ≡ true → PointsToComplete f.program (type_in f.program t)
  pub alike : is_shift o ≡ false → points (type_in f.program t) ≡ false → kept_as (type_in f.program t) ≡ Some count
  pub fits :
      ((points (type_in f.program t) ≡ true) × IsScalar f.program a (kinds.Cap false))
      ⊎ ((points (type_in f.program t) ≡ false) ×
      ComputedFits o (or_int (kept_as (type_in f.program t))) (kind_in f.program b))

-- a step
pub record StepNode (f : Frame) (k a : ℕ) : Type 0 where
  pub operands : HasOne f k a
  pub kind : TacKind
  pub is : IsScalar f.program k kind
  pub left : scalar_in f.program a ≡ scalar_in f.program k
  pub pointed :
      points (type_of (expression f.program a)) ≡ true → PointsToComplete f.program (type_of (expression f.program a))

-- the operands of a conditional expression are kept as its value, which may be copied
pub record ConditionalNode (f : Frame) (k a b c : ℕ) : Type 0 where
  pub operands : HasThree f k a b c
  pub copies : copied_in f.program k + copies_in f.program a + copies_in f.program b + copies_in f.program c
      ≡ copies_in f.program k
  pub kind : TacKind
  pub test : IsScalar f.program a kind
  pub left : scalar_in f.program b ≡ scalar_in f.program k
  pub right : scalar_in f.program c ≡ scalar_in f.program k
  pub one_way : type_of (expression f.program b) ≡ type_of (expression f.program k)
  pub other_way : type_of (expression f.program c) ≡ type_of (expression f.program k)

-- a name, by its number
pub record NameNode (f : Frame) (k n count : ℕ) : Type 0 where
  pub there : n < count
  pub weight : weight_in f.program k ≡ 1

-- the name of a variable, which is kept as the variable is
pub record VarNode (f : Frame) (k n : ℕ) : Type 0 where
  pub var : VarDef
  pub there : slice_get f.vars n ≡ Some var
  pub kept : scalar_in f.program k ≡ kept_as (type_in f.program var.of)
  pub weight : weight_in f.program k ≡ 1

-- the name of a function, whose type agrees with the function's
pub record FunNode (f : Frame) (k n : ℕ) : Type 0 where
  pub fun : FunDef
  pub there : slice_get f.program.funs n ≡ Some fun
  pub agrees : compatible (type_of (expression f.program k)) (type_in f.program fun.of) ≡ true
  pub weight : weight_in f.program k ≡ 1

-- the weight of some expressions
abbrev pub weights_in : Typed → List ℕ → ℕ
weights_in p ks = sum_by (λ k. weight_in p k) ks

pub record AreTyped (f : Frame) (ks : List ℕ) : Type 0 where
  pub each : (j k : ℕ) → slice_get ks j ≡ Some k → IsTyped f k

-- a call, by the type of the function: its arguments have the types of the parameters, and its value that of the result
pub record CallNode (f : Frame) (k g : ℕ) (args : List ℕ) : Type 0 where
  pub called : IsTyped f g
  pub arguments : AreTyped f args
  pub weight : weight_in f.program k ≡ 4 + weight_in f.program g + weights_in f.program args
  pub copies : copies_in f.program g + all_copies_in f.program args ≤ copies_in f.program k
  pub result : Ty
  pub takes : Tys
  pub of : type_of (expression f.program g) ≡ Pointer (Function result takes)
  pub fit : ArgumentsFit takes (terms (map (expression f.program) args))
  pub gives : scalar_in f.program k ≡ kept_as result

-- a call of a library function or intrinsic, by what it asks and gives
pub record LibraryNode (f : Frame) (k n : ℕ) (args : List ℕ) : Type 0 where
  pub arguments : AreTyped f args
  pub weight : weight_in f.program k ≡ 4 + weights_in f.program args
  pub copies : all_copies_in f.program args ≤ copies_in f.program k
  pub service : Service
  pub there : slice_get services n ≡ Some service
  pub fit : AllAskedFit service.takes (terms (map (expression f.program) args))
  pub gives : type_of (expression f.program k)
      ≡ given_type service.gives (list_of (terms (map (expression f.program) args)))

-- Expression k by its kind
abbrev pub NodeFits : Frame → ℕ → ExprKind → Type 0
NodeFits f k (exprs.Constant n) = ConstantNode f k n
NodeFits f k (exprs.Literal n) = NameNode f k n (length f.program.literals)
NodeFits f k (exprs.Var n) = VarNode f k n
NodeFits f k (exprs.Global n) = NameNode f k n (length f.program.globals)
NodeFits f k (exprs.Fun n) = FunNode f k n
NodeFits f k (exprs.Load a) = SameNode f k a
NodeFits f k (exprs.Decay a) = AddressNode f k a
NodeFits f k (exprs.Deref a) = DerefNode f k a
NodeFits f k (exprs.Member a m) = HasOne f k a
NodeFits f k (exprs.Address a) = AddressNode f k a
NodeFits f k (exprs.Convert a) = HasOne f k a
NodeFits f k (exprs.Unary o a) = UnaryNode f k o a
NodeFits f k (exprs.Int o a b) = IntNode f k o a b
NodeFits f k (exprs.Capability o a b right) = CapabilityNode f k o a b
NodeFits f k (exprs.Plus a b minus) = SumNode f k a b
NodeFits f k (exprs.Difference a b) = DifferenceNode f k a b
NodeFits f k (exprs.Compare o a b) = CompareNode f k a b
NodeFits f k (exprs.And a b) = TruthNode f k a b
NodeFits f k (exprs.Or a b) = TruthNode f k a b
NodeFits f k (exprs.Comma a b) = CommaNode f k a b
NodeFits f k (exprs.Assign a b) = AssignNode f k a b
NodeFits f k (exprs.Compound o a b t) = CompoundNode f k o a b t
NodeFits f k (exprs.Step a adds front) = StepNode f k a
NodeFits f k (exprs.Conditional a b c) = ConditionalNode f k a b c
NodeFits f k (exprs.Call g xs) = CallNode f k g xs
NodeFits f k (exprs.Library n xs) = LibraryNode f k n xs
