-- A program as a tree. Its nodes have what the meaning asks of types: kinds, sizes, offsets.
use Rattle.std.specs.Prelude.{ℕ, Bool, List, Option}
use Rattle.ck_base.specs.declared.positions.Pos.{Pos}
use Rattle.ck_int.specs.declared.kinds.IntKind.{IntKind}
use Rattle.ck_int.specs.declared.kinds.IntOp.{IntOp}
use Rattle.ck_int.specs.declared.kinds.CmpOp.{CmpOp}
use Rattle.obj_mem.specs.Values.{Value}
use Rattle.cheri_c_sem.specs.Kinds.{Kind}
use Rattle.cheri_c_sem.specs.Operations.{Work}

-- A binary operation whose result has the kind of its computation.
pub data Operation : Type 0 where
  -- of integers of a kind; the kind of the right operand
  Whole : IntOp → IntKind → Kind → Operation
  -- of capability integers, signed or not; the kind of the right operand; whether the result derives from the right
  -- operand, and whether the other operand was converted from a plain integer
  Derived : IntOp → Bool → Kind → Bool → Bool → Operation
  -- a pointer and an integer: the size of an element, whether the integer is taken away, whether it stands left of the
  -- pointer, and its kind
  Moved : ℕ → Bool → Bool → Kind → Operation
  -- the difference of two pointers to elements of a size
  Apart : ℕ → Operation

-- the unary operations that give a value of their operand's kind (C11 6.5.3.3)
pub data Sign : Type 0 where
  Positive : Sign
  Negative : Sign
  Complement : Sign

-- a member's own length, and the length that it owns
pub record Narrowing : Type 0 where
  pub own : ℕ
  pub owned : ℕ

-- the library functions, and the intrinsics on capabilities
pub data Service : Type 0 where
  Put_char : Service
  Get_char : Service
  Malloc : Service
  Exit : Service
  -- the address of a capability
  Address : Service
  -- narrowing, exactly or with rounding
  Bounds : (exact : Bool) → Service
  Works : Work → Service

mutual
  -- An expression: a value or a place (C11 6.5).
  pub data Ex : Type 0 where
    -- an integer, and null with an address
    Number : ℕ → Ex
    Null : ℕ → Ex
    -- the value at a place
    Load : Kind → Ex → Ex
    -- a struct or union, standing for the object that it is taken from
    Aggregate : Ex → Ex
    -- a place, an array or a function as a pointer; a member is narrowed to
    Pointer_to : Pos → Option Narrowing → Ex → Ex
    -- a conversion from a kind to a kind; whether it makes a capability integer from a plain integer, perhaps through
    -- others
    Convert : Pos → Kind → Kind → (plain : Bool) → Ex → Ex
    -- a conversion to void
    Discard : Ex → Ex
    Unary : Pos → Sign → Kind → Ex → Ex
    Not : Pos → Kind → Ex → Ex
    Binary : Pos → Operation → Ex → Ex → Ex
    Compare : Pos → CmpOp → Kind → Ex → Ex → Ex
    And : Pos → Kind → Kind → Ex → Ex → Ex
    Or : Pos → Kind → Kind → Ex → Ex → Ex
    Conditional : Pos → Kind → Ex → Ex → Ex → Ex
    Comma : Ex → Ex → Ex
    -- a place of a kind, and the value that it gets
    Assign : Kind → Ex → Ex → Ex
    -- two structs or unions: their size, and the length of a unit
    Copy : Pos → (bytes unit : ℕ) → Ex → Ex → Ex
    -- an operation on a place of a kind, computed in another kind; whether the old value is given
    Compound : Pos → Operation → (place computed : Kind) → (old : Bool) → Ex → Ex → Ex
    -- whether the call's type is compatible with each function's, what is called, and the arguments
    Call : Pos → List Bool → Ex → Exs → Ex
    Library : Pos → Service → Exs → Ex
    -- the place of a variable that is no object, by its number among the variables
    Variable : Pos → ℕ → Ex
    -- the place of a variable that is an object, by its number among these
    Local : Pos → ℕ → Ex
    -- the place of a global or a literal: the object's number, and its permissions
    Object : Pos → ℕ → ℕ → Ex
    Function : Pos → ℕ → Ex
    Deref : Pos → Ex → Ex
    -- a member of a struct or union, at an offset
    Member : Pos → ℕ → Ex → Ex

  pub data Exs : Type 0 where
    Nil : Exs
    Cons : Ex → Exs → Exs

-- a variable that a block declares
pub data Declared : Type 0 where
  Simple : ℕ → Declared
  Objects : ℕ → Declared

-- a label of a `switch`: the value of a `case`, and how many statements stand before the label
pub data Label : Type 0 where
  Case : (value before : ℕ) → Label
  Default : (before : ℕ) → Label

mutual
  -- A statement (C11 6.8).
  pub data St : Type 0 where
    Do : Ex → St
    -- the initialisation of a variable; of a scalar in an object, at an offset; of a struct or union in an object
    Give : ℕ → Ex → St
    Init : Pos → (local offset : ℕ) → Kind → Ex → St
    Fill : Pos → (local offset bytes unit : ℕ) → Ex → St
    Block : List Declared → Sts → St
    If : Pos → Kind → Ex → St → St → St
    While : Pos → Kind → Ex → St → St
    Do_while : Pos → Kind → St → Ex → St
    For : List Declared → Sts → Option (Pos × Kind × Ex) → Option Ex → St → St
    Switch : Pos → Kind → Ex → List Declared → List Label → Sts → St
    Break : St
    Continue : St
    Return : Option Ex → St
    Empty : St

  pub data Sts : Type 0 where
    End : Sts
    Seq : St → Sts → Sts

-- A parameter: a variable, by its number; or an object, by its number among the objects, and its kind
pub data Parameter : Type 0 where
  In_variable : ℕ → Parameter
  In_object : ℕ → Kind → Parameter

-- what a function that reaches its end gives: nothing, 0 in `main`, or a value of a kind that it lacks
pub data At_end : Type 0 where
  Gives_nothing : At_end
  Gives_zero : At_end
  Lacks : Kind → At_end

-- A function: the position of its name, its parameters, how many variables it has, the lengths of those that are
-- objects, and its body
pub record Fun : Type 0 where
  pub name : Pos
  pub params : List Parameter
  pub vars : ℕ
  pub objects : List ℕ
  pub at_end : At_end
  pub body : St

-- a pointer with which a global begins, at an offset
pub record Starting : Type 0 where
  pub at : ℕ
  pub value : Value

-- a global: its length, its first bytes, the others being zero, and the pointers in it
pub record Global : Type 0 where
  pub length : ℕ
  pub bytes : List ℕ
  pub links : List Starting

-- A program. Each literal has its bytes; `main` is a function's number.
pub record Program : Type 0 where
  pub globals : List Global
  pub literals : List (List ℕ)
  pub funs : List Fun
  pub main : ℕ
