-- Programs in which no struct or union goes by value.
use Rattle.std.specs.Prelude.{◌≡◌, ℕ, ◌<◌, false, List, length, Some, slice_get}
use Rattle.c_tree.specs.declared.typed.CType.{CType}
use Rattle.c_tree.specs.declared.typed.CType.TheVariants as ctypes
use Rattle.c_tree.specs.declared.typed.Expr.{Expr}
use Rattle.c_tree.specs.declared.typed.ExprKind.{ExprKind}
use Rattle.c_tree.specs.declared.typed.ExprKind.TheVariants as exprs
use Rattle.c_tree.specs.declared.typed.Stmt.{Stmt}
use Rattle.c_tree.specs.declared.typed.StmtKind.{StmtKind}
use Rattle.c_tree.specs.declared.typed.StmtKind.TheVariants as stmts
use Rattle.c_tree.specs.declared.typed.VarDef.{VarDef}
use Rattle.c_tree.specs.declared.typed.FunDef.{FunDef}
use Rattle.c_tree.specs.declared.typed.Typed.{Typed}
use Rattle.c_tree.specs.Passed.{by_pointer}
use Rattle.passing_steps.specs.Numbered.{type_in}

-- ---- types

abbrev pub NonePointed : List CType → List ℕ → Type 0
NonePointed types ts = (j t : ℕ) → slice_get ts j ≡ Some t → by_pointer (type_in types t) ≡ false

-- a function takes and gives no struct or union
abbrev pub TypePlain : List CType → CType → Type 0
TypePlain types (ctypes.Function t ps) = (by_pointer (type_in types t) ≡ false) × NonePointed types ps
TypePlain types c = Unit {0}

abbrev pub TypesPlain : List CType → Type 0
TypesPlain types = (k : ℕ) (c : CType) → slice_get types k ≡ Some c → TypePlain types c

-- ---- expressions and statements

abbrev pub ValuePlain : Typed → ℕ → Type 0
ValuePlain p a = (e : Expr) → slice_get p.exprs a ≡ Some e → by_pointer (type_in p.types e.of) ≡ false

abbrev pub ValuesPlain : Typed → List ℕ → Type 0
ValuesPlain p xs = (j a : ℕ) → slice_get xs j ≡ Some a → ValuePlain p a

-- a call, of a type, has no such argument and no such result
abbrev pub CallPlain : Typed → ExprKind → ℕ → Type 0
CallPlain p (exprs.Call f xs) of = (by_pointer (type_in p.types of) ≡ false) × ValuesPlain p xs
CallPlain p k of = Unit {0}

abbrev pub CallsPlain : Typed → List Expr → Type 0
CallsPlain p es = (k : ℕ) (e : Expr) → slice_get es k ≡ Some e → CallPlain p e.kind e.of

-- the value that `return` has, if it has one
abbrev pub ReturnPlain : Typed → StmtKind → Type 0
ReturnPlain p (stmts.Return (Some a)) = ValuePlain p a
ReturnPlain p k = Unit {0}

abbrev pub ReturnsPlain : Typed → List Stmt → Type 0
ReturnsPlain p ss = (k : ℕ) (s : Stmt) → slice_get ss k ≡ Some s → ReturnPlain p s.kind

-- ---- parameters

abbrev pub AreFirst : List ℕ → Type 0
AreFirst ks = (j k : ℕ) → slice_get ks j ≡ Some k → k ≡ j

-- the first so many variables
abbrev pub VarsPlain : List CType → ℕ → List VarDef → Type 0
VarsPlain types n vs = (j : ℕ) (v : VarDef) → slice_get vs j ≡ Some v → j < n → by_pointer (type_in types v.of) ≡ false

-- the parameters are the first variables, in order
pub record ParamsPlain (types : List CType) (f : FunDef) : Type 0 where
  pub first : AreFirst f.params
  pub plain : VarsPlain types (length f.params) f.vars

abbrev pub FunctionsPlain : List CType → List FunDef → Type 0
FunctionsPlain types fs = (k : ℕ) (f : FunDef) → slice_get fs k ≡ Some f → ParamsPlain types f

-- ---- the program

pub record IsPlain (p : Typed) : Type 0 where
  pub types : TypesPlain p.types
  pub calls : CallsPlain p p.exprs
  pub returns : ReturnsPlain p p.stmts
  pub params : FunctionsPlain p.types p.funs
