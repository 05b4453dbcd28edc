-- Programs whose types are known, apart from the lists in which their nodes stand.
use Rattle.std.specs.Prelude.{ℕ, zero, suc, ◌+◌, ℤ, Bool, List, [], ◌∷◌, Option}
use Rattle.ck_base.specs.declared.positions.Pos.{Pos}
use Rattle.ck_base.specs.declared.positions.Span.{Span}
use Rattle.ck_int.specs.declared.kinds.IntOp.{IntOp}
use Rattle.ck_int.specs.declared.kinds.CmpOp.{CmpOp}
use Rattle.c_tree.specs.declared.typed.UnaryOp.{UnaryOp}
use Rattle.c_tree.specs.declared.syntax.RecordKind.{RecordKind}
use Rattle.c_tree.specs.Types.{Ty}

-- ---- expressions

-- What a node of an expression is. Its operands stand beside it, in the order of the source.
pub data Shape : Type 0 where
  -- without operands
  Constant : ℕ → Shape
  Literal : ℕ → Shape
  Var : ℕ → Shape
  Global : ℕ → Shape
  Fun : ℕ → Shape
  -- with one
  Load : Shape
  Decay : Shape
  Deref : Shape
  Member : ℕ → Shape
  Address : Shape
  Convert : Shape
  Unary : UnaryOp → Shape
  Step : (adds : Bool) → (in_front : Bool) → Shape
  -- with two
  Arithmetic : IntOp → Shape
  Capability : IntOp → (from_right : Bool) → Shape
  Plus : (minus : Bool) → Shape
  Difference : Shape
  Compare : CmpOp → Shape
  And : Shape
  Or : Shape
  Comma : Shape
  Assign : Shape
  Compound : IntOp → Ty → Shape
  -- with three
  Conditional : Shape
  -- the called expression and the arguments; the arguments of a library function or intrinsic
  Call : Shape
  Library : ℕ → Shape

mutual
  -- an expression: what it is, its operands, its type and its place
  pub data Term : Type 0 where
    term : Shape → Terms → Ty → Pos → Term

  pub data Terms : Type 0 where
    no_terms : Terms
    with_term : Term → Terms → Terms

abbrev pub type_of : Term → Ty
type_of (term n xs t p) = t

abbrev pub pos_of : Term → Pos
pos_of (term n xs t p) = p

abbrev pub leaf : Shape → Ty → Pos → Term
leaf n t p = term n no_terms t p

abbrev pub step : Shape → Term → Ty → Pos → Term
step n a t p = term n (with_term a no_terms) t p

abbrev pub join : Shape → Term → Term → Ty → Pos → Term
join n a b t p = term n (with_term a (with_term b no_terms)) t p

abbrev pub join_three : Shape → Term → Term → Term → Ty → Pos → Term
join_three n a b c t p = term n (with_term a (with_term b (with_term c no_terms))) t p

abbrev pub terms : List Term → Terms
terms [] = no_terms
terms (x ∷ xs) = with_term x (terms xs)

-- ---- statements

-- a label of a `switch`: its value, none for `default`, and how many statements stand before it
pub record Label : Type 0 where
  pub value : Option ℕ
  pub before : ℕ

-- What a statement is. Its expressions and its statements stand beside it.
pub data Form : Type 0 where
  -- one expression
  Evaluate : Form
  -- the variable and the offset; one expression
  Init : ℕ → ℕ → Form
  -- the variables declared; statements
  Block : List ℕ → Form
  -- one expression; one statement, or two with an `else`
  If : Form
  While : Form
  Do : Form
  -- the variables declared, how many statements initialise, whether there is a test, and whether there is a step; the
  -- test and the step; the statements that initialise, and the body
  For : List ℕ → ℕ → Bool → Bool → Form
  -- the variables and the labels; one expression; statements
  Switch : List ℕ → List Label → Form
  Break : Form
  Continue : Form
  -- one expression, or none
  Return : Form
  Empty : Form

mutual
  pub data Action : Type 0 where
    action : Form → Terms → Actions → Pos → Action

  pub data Actions : Type 0 where
    no_actions : Actions
    with_action : Action → Actions → Actions

abbrev pub actions : List Action → Actions
actions [] = no_actions
actions (x ∷ xs) = with_action x (actions xs)

-- ---- objects and functions

-- what an initial pointer points to, by its number
pub data Aim : Type 0 where
  To_global : ℕ → Aim
  To_literal : ℕ → Aim
  To_function : ℕ → Aim

-- a pointer with which an object begins: its place in the object; what it points to, where its bounds begin there,
-- their length, and its address from the base
pub record Pointing : Type 0 where
  pub at : ℕ
  pub aim : Aim
  pub low : ℕ
  pub length : ℕ
  pub offset : ℤ

-- a parameter or another local
pub record Variable : Type 0 where
  pub name : Span
  pub place : Pos
  pub of : Ty
  pub simple : Bool

-- so many numbers, from one on
abbrev pub numbers_from : ℕ → ℕ → List ℕ
numbers_from k zero = []
numbers_from k (suc n) = k ∷ numbers_from (k + 1) n

pub record Object : Type 0 where
  pub name : Span
  pub place : Pos
  pub of : Ty
  pub bytes : List ℕ
  pub links : List Pointing

pub record Text : Type 0 where
  pub place : Pos
  pub bytes : List ℕ

pub record Routine : Type 0 where
  pub name : Span
  pub place : Pos
  pub of : Ty
  pub params : List ℕ
  pub vars : List Variable
  pub body : Action

-- a struct or union, by the number of its tag: its members once it is complete, with their names and types
pub record Tag : Type 0 where
  pub kind : RecordKind
  pub members : Option (List (Span × Ty))

pub record Program : Type 0 where
  pub tags : List Tag
  pub objects : List Object
  pub texts : List Text
  pub routines : List Routine
  -- the number of the function `main`
  pub main : ℕ
