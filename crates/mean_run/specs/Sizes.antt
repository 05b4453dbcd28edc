-- What is asked of the sizes of a program's types: of those that are copied, moved over, pointed into or held.
use Rattle.std.specs.Prelude.{◌≡◌, ℕ, ◌≤◌, true, List, Option, Some, slice_get, if◌then◌else◌}
use Rattle.c_tree.specs.Layout.{bare, size_limit}
use Rattle.c_tree.specs.declared.typed.CType.{CType}
use Rattle.c_tree.specs.declared.typed.ExprKind.{ExprKind}
use Rattle.c_tree.specs.declared.typed.ExprKind.TheVariants as exprs
use Rattle.c_tree.specs.declared.typed.StmtKind.{StmtKind}
use Rattle.c_tree.specs.declared.typed.StmtKind.TheVariants as stmts
use Rattle.c_tree.specs.declared.typed.Typed.{Typed}
use Rattle.c_tree.specs.declared.typed.VarDef.{VarDef}
use Rattle.cheri_c_sem.specs.Expressions.{type_of}
use Rattle.cheri_c_sem.specs.Types.{is_pointer, pointee_of, size_in}

module _ (p : Typed) where
  -- a type is no larger than an object may be
  abbrev pub IsSmall : ℕ → Type 0
  IsSmall t = size_in p.types t ≤ size_limit

  -- nor is what a pointer points to
  abbrev pub PointsToSmall : Option CType → Type 0
  PointsToSmall c = is_pointer c ≡ true → IsSmall (pointee_of c)

  abbrev own : ℕ → Option CType
  own k = bare p.types (type_of (slice_get p.exprs k))

  -- what a node of a type and a kind copies, takes the address of or moves over
  abbrev pub IsSizedBy : ℕ → ExprKind → Type 0
  IsSizedBy of (exprs.Decay a) = IsSmall (type_of (slice_get p.exprs a))
  IsSizedBy of (exprs.Address a) = IsSmall (type_of (slice_get p.exprs a))
  IsSizedBy of (exprs.Assign a b) = IsSmall of
  IsSizedBy of (exprs.Plus a b minus) = IsSmall (pointee_of (if is_pointer (own a) then own a else own b))
  IsSizedBy of (exprs.Difference a b) = IsSmall (pointee_of (own a))
  IsSizedBy of (exprs.Compound op a b computed) = PointsToSmall (bare p.types computed)
  IsSizedBy of (exprs.Step a adds front) = PointsToSmall (own a)
  IsSizedBy of e = Unit {0}

  -- what a variable begins with
  abbrev pub IsSizedStatement : StmtKind → Type 0
  IsSizedStatement (stmts.Init x offset e) = IsSmall (type_of (slice_get p.exprs e))
  IsSizedStatement s = Unit {0}

  abbrev pub AreSizedVariables : List VarDef → Type 0
  AreSizedVariables vars = (x : ℕ) (v : VarDef) → slice_get vars x ≡ Some v → IsSmall v.of
