-- What is asked of a program and of what is known of it.
use Rattle.std.specs.Prelude.{◌≡◌, ℕ, ◌^◌, ◌<◌, List, length, Some, slice_get}
use Rattle.c_tree.specs.declared.typed.Expr.{Expr}
use Rattle.c_tree.specs.declared.typed.ExprKind.TheVariants as exprs
use Rattle.c_tree.specs.declared.typed.FunDef.{FunDef}
use Rattle.c_tree.specs.declared.typed.Typed.{Typed}
use Rattle.c_tree.specs.declared.typed.VarDef.{VarDef}
use Rattle.c_tree.specs.declared.typed.Stmt.{Stmt}
use Rattle.cheri_c_sem.specs.Expressions.{expr_tree, kind_tree, type_of}
use Rattle.cheri_c_sem.specs.Order.{Ordered}
use Rattle.cheri_c_sem.specs.Programs.{stmt_tree, stmt_kind_tree}
use Rattle.cheri_c_sem.specs.Types.{align_in, unit_of}
use Rattle.mean_operations.specs.Answers.{IsAccess}
use Rattle.mean_types.specs.Facts.{AreTypesOf}
use Rattle.mean_run.specs.declared.state.Source.{Source}
use Rattle.mean_run.specs.Locals.{AreLocals}
use Rattle.mean_run.specs.Offsets.{AreOffsets, HasMember}
use Rattle.mean_run.specs.Sizes.{AreSizedVariables, IsSizedBy, IsSizedStatement}
use Rattle.mean_run.specs.Steps.{IsPeeled}

-- A program that typing gives: operands and parts of statements stand before what has them, no conversion is one of a
-- struct or union to its own type, a member is one of a struct or union that has it, what is copied, moved over,
-- pointed into or held is no larger than an object may be, and there are few globals
pub record IsFit (p : Typed) : Type 0 where
  pub order : Ordered p
  pub peeled : (vars : List VarDef) (k : ℕ) (e : Expr) → slice_get p.exprs k ≡ Some e → IsPeeled p vars e
  pub members : (k a n : ℕ) (e : Expr) → slice_get p.exprs k ≡ Some e → e.kind ≡ exprs.Member a n →
      HasMember p.types (type_of (slice_get p.exprs a)) n
  pub sizes : (k : ℕ) (e : Expr) → slice_get p.exprs k ≡ Some e → IsSizedBy p e.of e.kind
  pub initials : (k : ℕ) (a : Stmt) → slice_get p.stmts k ≡ Some a → IsSizedStatement p a.kind
  pub variables : (g : ℕ) (d : FunDef) → slice_get p.funs g ≡ Some d → AreSizedVariables p d.vars
  pub units : (t : ℕ) → IsAccess (unit_of (align_in p.types t))
  pub globals : length p.globals < 2 ^ 32

pub record IsSource (s : Source) : Type 0 where
  pub types : AreTypesOf s.p.now.types s.types.now
  pub locals : AreLocals s.p.now.funs s.locals.now
  pub offsets : AreOffsets s.p.now.types s.offsets.now

-- a node is the expression of its number
abbrev pub IsNode : Typed → ℕ → Expr → Type 0
IsNode p k e = (vars : List VarDef) → expr_tree p vars k ≡ kind_tree p vars (expr_tree p vars) e.of e.pos e.kind

abbrev pub IsStatement : Typed → ℕ → Stmt → Type 0
IsStatement p k a = (vars : List VarDef) →
    stmt_tree p vars k ≡ stmt_kind_tree p vars (expr_tree p vars) (stmt_tree p vars) a.pos a.kind
