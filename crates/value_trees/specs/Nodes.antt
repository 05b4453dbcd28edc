-- Each expression of a typed program is of one of its functions.
use Rattle.std.specs.Prelude.{◌≡◌, ℕ, ◌⊎◌, true, false, List, [], ◌∷◌, Option, Some, None, slice_get}
use Rattle.c_tree.specs.Layout.{bare}
use Rattle.c_tree.specs.Terms.{type_of as term_type}
use Rattle.c_tree.specs.Types.{Ty, is_scalar, is_tagged}
use Rattle.c_tree.specs.Views.{terms_of, term_at}
use Rattle.c_tree.specs.WellTyped.{TermFits, IsComplete}
use Rattle.c_tree.specs.declared.typed.Expr.{Expr}
use Rattle.c_tree.specs.declared.typed.ExprKind.{ExprKind}
use Rattle.c_tree.specs.declared.typed.ExprKind.TheVariants as exprs
use Rattle.c_tree.specs.declared.typed.FunDef.{FunDef}
use Rattle.c_tree.specs.declared.typed.Stmt.{Stmt}
use Rattle.c_tree.specs.declared.typed.StmtKind.TheVariants as stmts
use Rattle.c_tree.specs.declared.typed.Typed.{Typed}
use Rattle.c_tree.specs.declared.typed.VarDef.{VarDef}
use Rattle.typing_laws.specs.Valued.{IsValue, IsPlace}
use Rattle.cheri_c_sem.specs.Expressions.{expr_tree, type_of}
use Rattle.cheri_c_sem.specs.Types.{is_record, is_simple}
use Rattle.lower_runs.specs.Expressions.{position_in}

-- an expression fits in a function, and is a value or a place
pub record IsUsed (p : Typed) (k : ℕ) : Type 0 where
  pub number : ℕ
  pub function : FunDef
  pub gives : Ty
  pub there : slice_get p.funs number ≡ Some function
  pub fits : TermFits (record { program = p; vars = function.vars; gives = gives }) (term_at (terms_of p) k)
  pub stands : IsValue (term_at (terms_of p) k) ⊎ IsPlace (term_at (terms_of p) k)

abbrev pub AreUsed : Typed → Type 0
AreUsed p = (k : ℕ) (e : Expr) → slice_get p.exprs k ≡ Some e → IsUsed p k

-- the place that a node takes
abbrev pub taken : ExprKind → Option ℕ
taken (exprs.Load a) = Some a
taken (exprs.Assign a b) = Some a
taken (exprs.Compound op a b t) = Some a
taken (exprs.Step a adds front) = Some a
taken of = None

-- the tree of a place has the place's own position
pub record IsPlaced (p : Typed) (vars : List VarDef) (a : ℕ) : Type 0 where
  pub node : Expr
  pub there : slice_get p.exprs a ≡ Some node
  pub is : position_in (expr_tree p vars a) ≡ Some node.pos

abbrev pub ArePlaced : Typed → Type 0
ArePlaced p = (vars : List VarDef) (k a : ℕ) (e : Expr) → slice_get p.exprs k ≡ Some e → taken e.kind ≡ Some a →
    IsPlaced p vars a

-- what is a place where a node is one
abbrev pub handed_on : ExprKind → List ℕ
handed_on (exprs.Member a m) = a ∷ []
handed_on (exprs.Comma a b) = b ∷ []
handed_on (exprs.Conditional c a b) = a ∷ b ∷ []
handed_on of = []

abbrev pub type_at : Typed → ℕ → ℕ
type_at p k = type_of (slice_get p.exprs k)

abbrev pub HasRecord : Typed → ℕ → Type 0
HasRecord p k = is_record (bare p.types (type_at p k)) ≡ true

abbrev pub HasScalar : Typed → ℕ → Type 0
HasScalar p k = is_scalar (term_type (term_at (terms_of p) k)) ≡ true

-- a node of a kind
pub record IsExpr (p : Typed) (k : ℕ) (of : ExprKind) : Type 0 where
  pub node : Expr
  pub there : slice_get p.exprs k ≡ Some node
  pub is : node.kind ≡ of

-- in a function an expression fits that names a variable of it
pub record Names (p : Typed) (d : FunDef) (k x : ℕ) : Type 0 where
  pub gives : Ty
  pub fits : TermFits (record { program = p; vars = d.vars; gives = gives }) (term_at (terms_of p) k)
  pub names : IsExpr p k (exprs.Var x)

-- What calls take is scalar, and what variables begin with a scalar, a struct or a union. A variable that is a struct
-- or union, or of which a member is taken, or which stands behind a comma or in a choice, is an object
pub record NodesFit (p : Typed) : Type 0 where
  pub passed : (k f : ℕ) (args : List ℕ) → IsExpr p k (exprs.Call f args) → (j a : ℕ) → slice_get args j ≡ Some a →
      HasScalar p a
  pub initial : (k x offset a : ℕ) (s : Stmt) → slice_get p.stmts k ≡ Some s → s.kind ≡ stmts.Init x offset a →
      HasScalar p a ⊎ HasRecord p a
  pub located : (n : ℕ) (d : FunDef) → slice_get p.funs n ≡ Some d → (k x : ℕ) → Names p d k x → HasRecord p k →
      is_simple (slice_get d.vars x) ≡ false
  pub handed : (n : ℕ) (d : FunDef) → slice_get p.funs n ≡ Some d → (k a j x : ℕ) (of : ExprKind) → Names p d a x →
      IsExpr p k of → slice_get (handed_on of) j ≡ Some a → is_simple (slice_get d.vars x) ≡ false
  pub records : (k : ℕ) → is_tagged (term_type (term_at (terms_of p) k)) ≡ true →
      IsComplete p (term_type (term_at (terms_of p) k)) → HasRecord p k
