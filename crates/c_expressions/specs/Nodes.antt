-- What the nodes of a program under way stand for, and how they grow.
use Rattle.std.specs.Prelude.{◌≡◌, ℕ, Bool, ◌<◌, ◌≤◌, List, [], ◌∷◌, ◌++◌, length, map, Option, Some, None, slice_get}
use Rattle.c_tree.specs.declared.typed.CType.{CType}
use Rattle.c_tree.specs.declared.typed.Expr.{Expr}
use Rattle.c_tree.specs.declared.typed.ExprKind.{ExprKind}
use Rattle.c_tree.specs.declared.typed.ExprKind.TheVariants as exprs
use Rattle.c_tree.specs.declared.typed.Typed.{Typed}
use Rattle.c_tree.specs.Types.{Ty, Void, Tys}
use Rattle.c_tree.specs.Terms.{Term}
use Rattle.c_tree.specs.Views.{types_of, type_at, terms_of, term_at, operands}
use Rattle.c_tree.specs.Scopes.{State}
use Rattle.c_tree.specs.Conversions as meant
use Rattle.c_types.specs.Stands.{Stands}
use Rattle.c_node_facts.specs.declared.classes.Class.{Class}
use Rattle.c_expressions.specs.declared.nodes.Nodes.{Nodes}
use Rattle.c_expressions.specs.declared.nodes.Operand.{Operand}
use Rattle.c_node_facts.specs.Classes.{class_type}
use Rattle.c_expressions.specs.Classes.{PartIsThere}
use Rattle.c_node_facts.specs.declared.facts.Join.{Join}
use Rattle.c_node_facts.specs.declared.facts.Join.TheVariants as joins
use Rattle.c_node_facts.specs.Facts.{fact_of}

-- the type and the expression that a number names
abbrev pub type_in : Nodes → ℕ → Ty
type_in n k = type_at (types_of n.p.types) k

abbrev pub term_in : Nodes → ℕ → Term
term_in n k = term_at (terms_of n.p) k

abbrev pub operand_in : Nodes → Operand → meant.Operand
operand_in n o = record { is = term_in n o.node; first = o.first }

abbrev pub type_count : Nodes → ℕ
type_count n = length n.p.types

abbrev pub term_count : Nodes → ℕ
term_count n = length n.p.exprs

-- ---- what holds between calls

-- the types that a node names are among so many
abbrev pub KindIsTyped : ℕ → ExprKind → Type 0
KindIsTyped n (exprs.Compound o a b of) = of < n
KindIsTyped n k = Unit {0}

abbrev pub AreBefore : ℕ → List ℕ → Type 0
AreBefore k [] = Unit {0}
AreBefore k (a ∷ xs) = (a < k) × AreBefore k xs

-- the operands of an expression, other than a call, stand before it
abbrev pub OperandsBefore : ℕ → ExprKind → Type 0
OperandsBefore k (exprs.Call f xs) = Unit {0}
OperandsBefore k (exprs.Library s xs) = Unit {0}
OperandsBefore k x = AreBefore k (operands x)

-- the expression of a number, where there are so many types
pub record IsTyped (n k : ℕ) (e : Expr) : Type 0 where
  pub of : e.of < n
  pub kind : KindIsTyped n e.kind
  pub before : OperandsBefore k e.kind

-- each expression has a type of the program and stands behind its operands, and beside it stands what is known of it
pub record IsWhole (n : Nodes) : Type 0 where
  pub facts : n.facts.items ≡ map fact_of (terms_of n.p)
  pub typed : (k : ℕ) (e : Expr) → slice_get n.p.exprs k ≡ Some e → IsTyped (type_count n) k e
  pub void_there : n.void < type_count n
  pub void : type_in n n.void ≡ Void

-- the types that a new node of two operands names
abbrev pub JoinIsTyped : ℕ → Join → Type 0
JoinIsTyped n (joins.Compound o of) = of < n
JoinIsTyped n k = Unit {0}

-- ---- numbers

pub record IsType (n : Nodes) (k : ℕ) (t : Ty) : Type 0 where
  pub there : k < type_count n
  pub is : type_in n k ≡ t

pub record IsTerm (n : Nodes) (k : ℕ) (x : Term) : Type 0 where
  pub there : k < term_count n
  pub is : term_in n k ≡ x

pub record IsOperand (n : Nodes) (o : Operand) (x : meant.Operand) : Type 0 where
  pub there : o.node < term_count n
  pub is : operand_in n o ≡ x

-- a level of a type, whose parts have numbers
pub record IsClass (n : Nodes) (k : ℕ) (c : Class) : Type 0 where
  pub params : Tys
  pub is : type_in n k ≡ class_type c (type_in n) params
  pub there : PartIsThere c (type_count n)

-- what a type of the list sees of the types that it names: those before it, and `void` for any other number
pub record Sees (n : Nodes) (k : ℕ) (seen : ℕ → Ty) : Type 0 where
  pub before : (j : ℕ) → j < k → seen j ≡ type_in n j
  pub past : (j : ℕ) → k ≤ j → seen j ≡ Void

-- ---- growth

-- types and expressions were added at the ends of the lists, and nothing else has changed
pub record Grows (p q : Typed) : Type 0 where
  pub types : List CType
  pub exprs : List Expr
  pub is : q ≡ record p { types = p.types ++ types; exprs = p.exprs ++ exprs }

-- what stood in the old nodes stands in the new ones
pub record Keeps (old new : Nodes) : Type 0 where
  pub whole : IsWhole new
  pub more_types : type_count old ≤ type_count new
  pub more_terms : term_count old ≤ term_count new
  pub types : (k : ℕ) → k < type_count old → type_in new k ≡ type_in old k
  pub terms : (k : ℕ) → k < term_count old → term_in new k ≡ term_in old k
  pub grows : Grows old.p new.p
  pub stands : (s : State) → Stands old.scopes old.p s → Stands new.scopes new.p s
  pub file : new.scopes.file.now ≡ old.scopes.file.now

-- beside what stood in the old nodes, the new ones have a type, and an expression
pub record HasType (old new : Nodes) (k : ℕ) (t : Ty) : Type 0 where
  pub keeps : Keeps old new
  pub is : IsType new k t

pub record HasTerm (old new : Nodes) (k : ℕ) (x : Term) : Type 0 where
  pub keeps : Keeps old new
  pub is : IsTerm new k x

-- the same of a type that there may be
abbrev pub IsMaybeType : Nodes → Option ℕ → Option Ty → Type 0
IsMaybeType n None None = Unit {0}
IsMaybeType n (Some k) (Some t) = IsType n k t
IsMaybeType n k t = ⊥

pub record HasMaybe (old new : Nodes) (k : Option ℕ) (t : Option Ty) : Type 0 where
  pub keeps : Keeps old new
  pub is : IsMaybeType new k t

-- nothing that stood in the old nodes was lost, and a test has this outcome
pub record Tells (old new : Nodes) (test outcome : Bool) : Type 0 where
  pub keeps : Keeps old new
  pub is : test ≡ outcome
