-- The expressions of a typed program as trees: the tree of a node is made of those of its operands, which have smaller
-- numbers.
use Rattle.std.specs.Prelude.{ℕ, zero, suc, ◌+◌, not, Bool, true, false, List, [], ◌∷◌, length, map, Option, Some, None}
use Rattle.std.specs.Prelude.{slice_get, if◌then◌else◌}
use Rattle.ck_base.specs.declared.positions.Pos.{Pos}
use Rattle.ck_int.specs.declared.kinds.IntKind.TheVariants as int
use Rattle.ck_int.specs.declared.kinds.IntOp.{IntOp}
use Rattle.cap_ops.specs.Permissions.{data_permissions, const_permissions}
use Rattle.c_tree.specs.Layout.{bare}
use Rattle.c_tree.specs.declared.typed.CType.{CType}
use Rattle.c_tree.specs.declared.typed.CType.TheVariants as types
use Rattle.c_tree.specs.declared.typed.Expr.{Expr}
use Rattle.c_tree.specs.declared.typed.ExprKind.{ExprKind}
use Rattle.c_tree.specs.declared.typed.ExprKind.TheVariants as exprs
use Rattle.c_tree.specs.declared.typed.GlobalDef.{GlobalDef}
use Rattle.c_tree.specs.declared.typed.Typed.{Typed}
use Rattle.c_tree.specs.declared.typed.UnaryOp.{UnaryOp}
use Rattle.c_tree.specs.declared.typed.UnaryOp.TheVariants as unary
use Rattle.c_tree.specs.declared.typed.VarDef.{VarDef}
use Rattle.obj_mem.specs.Needs.{is_const}
use Rattle.cheri_c_sem.specs.Compatible.{compatible}
use Rattle.cheri_c_sem.specs.Kinds.{Kind, Plain, Capability, int_kind}
use Rattle.cheri_c_sem.specs.Tree.{Operation, Whole, Derived, Moved, Apart, Positive, Negative, Complement, Narrowing}
use Rattle.cheri_c_sem.specs.Tree.{Ex, Number, Null, Load, Aggregate, Pointer_to, Convert, Discard, Unary, Not, Binary}
use Rattle.cheri_c_sem.specs.Tree.{Compare, And, Or, Conditional, Comma, Assign, Copy, Compound, Call, Library}
use Rattle.cheri_c_sem.specs.Tree.{Variable, Local, Object, Function, Deref, Member, Exs, Nil, Cons}
use Rattle.cheri_c_sem.specs.Types.{size_in, align_in, offset_in, scalar_of, kind_of, is_record, is_signed_capability}
use Rattle.cheri_c_sem.specs.Types.{is_void, is_plain, is_pointer, pointee_of, unit_of, narrowing_to, promoted}
use Rattle.cheri_c_sem.specs.Types.{takes_away, adds_or_takes, derived, service_of, objects_before, is_simple}

-- whether a tree is a conversion that makes a capability integer from a plain one, perhaps through other capability
-- integers
abbrev pub from_plain : Ex → Bool
from_plain (Convert p old new plain e) = plain
from_plain e = false

abbrev pub type_of : Option Expr → ℕ
type_of None = 0
type_of (Some e) = e.of

abbrev pub constant : ℕ → Kind → Ex
constant n (Plain k) = Number n
constant n (Capability signed) = Null n

abbrev pub sign_of : Pos → Kind → Ex → UnaryOp → Ex
sign_of p k e unary.Plus = Unary p Positive k e
sign_of p k e unary.Minus = Unary p Negative k e
sign_of p k e unary.Complement = Unary p Complement k e
sign_of p k e unary.LogicalNot = Not p k e

abbrev pub arguments : (ℕ → Ex) → List ℕ → Exs
arguments t [] = Nil
arguments t (k ∷ ks) = Cons (t k) (arguments t ks)

module _ (p : Typed) (vars : List VarDef) where
  -- the type of an expression, without `const`
  abbrev pub bare_type : ℕ → Option CType
  bare_type k = bare p.types (type_of (slice_get p.exprs k))

  abbrev pub kind_at : ℕ → Kind
  kind_at k = kind_of (bare_type k)

  -- the size of what a pointer points to
  abbrev pub element_size : ℕ → ℕ
  element_size k = size_in p.types (pointee_of (bare_type k))

  -- ---- places

  abbrev pub permissions_of : Option GlobalDef → ℕ
  permissions_of None = data_permissions
  permissions_of (Some g) = if is_const p.types g.of then const_permissions else data_permissions

  abbrev pub variable : Pos → ℕ → Ex
  variable pos x = if is_simple (slice_get vars x) then Variable pos x else Local pos (objects_before vars x)

  -- the pointer to a member is narrowed to it
  abbrev pub narrowing_by : ExprKind → ℕ → Option Narrowing
  narrowing_by (exprs.Member a m) t = Some (narrowing_to (size_in p.types t))
  narrowing_by e t = None

  abbrev pub narrowing_of : Option Expr → Option Narrowing
  narrowing_of None = None
  narrowing_of (Some e) = narrowing_by e.kind e.of

  -- ---- conversions and operations

  abbrev pub makes_from_plain : Option CType → Option CType → Ex → Bool
  makes_from_plain (Some (types.Int k n)) (Some (types.Cap signed)) e = true
  makes_from_plain (Some (types.Cap signed)) (Some (types.Cap signed')) e = from_plain e
  makes_from_plain old new e = false

  -- a struct or union is converted to its own type alone
  abbrev pub conversion_by : Pos → Option Kind → Option Kind → Bool → Ex → Ex
  conversion_by pos (Some old) (Some new) plain e = Convert pos old new plain e
  conversion_by pos old new plain e = e

  abbrev pub conversion : Pos → Option CType → Option CType → Ex → Ex
  conversion pos old new e =
      if is_void new then Discard e
      else conversion_by pos (scalar_of old) (scalar_of new) (makes_from_plain old new e) e

  abbrev pub sum : Pos → Bool → ℕ → ℕ → Ex → Ex → Ex
  sum pos minus a b x y =
      if is_pointer (bare_type a) then Binary pos (Moved (element_size a) minus false (kind_at b)) x y
      else Binary pos (Moved (element_size b) minus true (kind_at a)) x y

  abbrev pub assignment : Pos → ℕ → ℕ → Ex → Ex → Ex
  assignment pos t a x y = if is_record (bare p.types t)
      then Copy pos (size_in p.types t) (unit_of (align_in p.types t)) x y else Assign (kind_at a) x y

  -- the operation of a compound assignment, computed in a type
  abbrev pub compound_by : IntOp → Option CType → ℕ → ℕ → Ex → Operation
  compound_by op (Some (types.Pointer t)) a b y = Moved (size_in p.types t) (takes_away op) false (kind_at b)
  compound_by op (Some (types.Cap signed)) a b y =
      derived op signed (kind_at b) (is_plain (bare_type a)) (if is_plain (bare_type b) then true else from_plain y)
  compound_by op t a b y = Whole op (int_kind (kind_of t)) (kind_at b)

  -- a place moved by one is computed in its promoted type (C11 6.5.2.4, 6.5.3.1)
  abbrev pub step_operation : Bool → Option CType → Operation
  step_operation adds (Some (types.Pointer t)) = Moved (size_in p.types t) (not adds) false (Plain int.I32)
  step_operation adds (Some (types.Cap signed)) = Derived (adds_or_takes adds) signed (Plain int.I32) false true
  step_operation adds t = Whole (adds_or_takes adds) (promoted (int_kind (kind_of t))) (Plain int.I32)

  abbrev pub step_kind : Kind → Kind
  step_kind (Plain k) = Plain (promoted k)
  step_kind (Capability signed) = Capability signed

  abbrev pub fits : ℕ → List Bool
  fits t = map (λ f. compatible p.types t f.of) p.funs

  -- ---- nodes

  -- the tree of a node of a kind with a type and a position, where t has those of its operands
  abbrev pub kind_tree : (ℕ → Ex) → ℕ → Pos → ExprKind → Ex
  kind_tree t of pos (exprs.Constant n) = constant n (kind_of (bare p.types of))
  kind_tree t of pos (exprs.Literal k) = Object pos (length p.globals + k) const_permissions
  kind_tree t of pos (exprs.Var x) = variable pos x
  kind_tree t of pos (exprs.Global g) = Object pos g (permissions_of (slice_get p.globals g))
  kind_tree t of pos (exprs.Fun f) = Function pos f
  kind_tree t of pos (exprs.Load a) =
      if is_record (bare p.types of) then Aggregate (t a) else Load (kind_of (bare p.types of)) (t a)
  kind_tree t of pos (exprs.Decay a) = Pointer_to pos (narrowing_of (slice_get p.exprs a)) (t a)
  kind_tree t of pos (exprs.Deref a) = Deref pos (t a)
  kind_tree t of pos (exprs.Member a m) = Member pos (offset_in p.types (type_of (slice_get p.exprs a)) m) (t a)
  kind_tree t of pos (exprs.Address a) = Pointer_to pos (narrowing_of (slice_get p.exprs a)) (t a)
  kind_tree t of pos (exprs.Convert a) = conversion pos (bare_type a) (bare p.types of) (t a)
  kind_tree t of pos (exprs.Unary op a) = sign_of pos (kind_at a) (t a) op
  kind_tree t of pos (exprs.Int op a b) =
      Binary pos (Whole op (int_kind (kind_of (bare p.types of))) (kind_at b)) (t a) (t b)
  kind_tree t of pos (exprs.Capability op a b right) =
      Binary pos (Derived op (is_signed_capability (bare p.types of)) (kind_at b) right
      (from_plain (if right then t a else t b))) (t a) (t b)
  kind_tree t of pos (exprs.Plus a b minus) = sum pos minus a b (t a) (t b)
  kind_tree t of pos (exprs.Difference a b) = Binary pos (Apart (element_size a)) (t a) (t b)
  kind_tree t of pos (exprs.Compare op a b) = Compare pos op (kind_at a) (t a) (t b)
  kind_tree t of pos (exprs.And a b) = And pos (kind_at a) (kind_at b) (t a) (t b)
  kind_tree t of pos (exprs.Or a b) = Or pos (kind_at a) (kind_at b) (t a) (t b)
  kind_tree t of pos (exprs.Conditional c a b) = Conditional pos (kind_at c) (t c) (t a) (t b)
  kind_tree t of pos (exprs.Comma a b) = Comma (t a) (t b)
  kind_tree t of pos (exprs.Assign a b) = assignment pos of a (t a) (t b)
  kind_tree t of pos (exprs.Compound op a b computed) =
      Compound pos (compound_by op (bare p.types computed) a b (t b)) (kind_at a)
      (kind_of (bare p.types computed)) false (t a) (t b)
  kind_tree t of pos (exprs.Step a adds front) =
      Compound pos (step_operation adds (bare_type a)) (kind_at a) (step_kind (kind_at a)) (not front) (t a) (Number 1)
  kind_tree t of pos (exprs.Call f args) = Call pos (fits (pointee_of (bare_type f))) (t f) (arguments t args)
  kind_tree t of pos (exprs.Library n args) = Library pos (service_of n) (arguments t args)

  abbrev pub node_tree : (ℕ → Ex) → Option Expr → Ex
  node_tree t None = Number 0
  node_tree t (Some e) = kind_tree t e.of e.pos e.kind

  -- the tree of node k, at most so many levels of it
  abbrev pub levels : ℕ → ℕ → Ex
  levels zero k = Number 0
  levels (suc n) k = node_tree (levels n) (slice_get p.exprs k)

  -- the tree of expression k
  unfoldable pub expr_tree : ℕ → Ex
  expr_tree k = levels (suc k) k
