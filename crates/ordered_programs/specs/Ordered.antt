-- What is asked of the parts of a program.
use Rattle.std.specs.Prelude.{◌≡◌, ℕ, ◌<◌, Bool, List, [], ◌∷◌, length, Some, slice_get}
use Rattle.c_tree.specs.declared.typed.CType.{CType}
use Rattle.c_tree.specs.declared.typed.Member.{Member}
use Rattle.c_tree.specs.declared.typed.Expr.{Expr}
use Rattle.c_tree.specs.declared.typed.Stmt.{Stmt}
use Rattle.c_tree.specs.declared.typed.VarDef.{VarDef}
use Rattle.c_tree.specs.declared.typed.FunDef.{FunDef}
use Rattle.c_tree.specs.declared.typed.GlobalDef.{GlobalDef}
use Rattle.c_tree.specs.Views.{operands, values, parts, Below}
use Rattle.ordered_programs.specs.Uses.{MarksEach}

-- ---- types, one of so many

abbrev pub MembersTyped : ℕ → List Member → Type 0
MembersTyped n ms = (j : ℕ) (m : Member) → slice_get ms j ≡ Some m → m.of < n

abbrev pub VarsTyped : ℕ → List VarDef → Type 0
VarsTyped n vs = (j : ℕ) (v : VarDef) → slice_get vs j ≡ Some v → v.of < n

abbrev pub GlobalsTyped : ℕ → List GlobalDef → Type 0
GlobalsTyped n gs = (k : ℕ) (g : GlobalDef) → slice_get gs k ≡ Some g → g.of < n

abbrev pub TypesOrdered : List CType → Type 0
TypesOrdered cs = (k : ℕ) (c : CType) → slice_get cs k ≡ Some c → Below (length cs) k c

pub record FunctionTyped (types : ℕ) (f : FunDef) : Type 0 where
  pub of : f.of < types
  pub vars : VarsTyped types f.vars

-- ---- lists, and the marks before and behind them

pub record ExprsOrdered (types : ℕ) (es : List Expr) (old new : List Bool) : Type 0 where
  pub typed : (k : ℕ) (e : Expr) → slice_get es k ≡ Some e → e.of < types
  pub operands : MarksEach (λ (e : Expr). operands e.kind) (λ k. k) es old new

-- statements over so many expressions
pub record StmtsOrdered (exprs : ℕ) (ss : List Stmt) (old_exprs new_exprs old_stmts new_stmts : List Bool) : Type 0
  where
    pub values : MarksEach (λ (s : Stmt). values s.kind) (λ k. exprs) ss old_exprs new_exprs
    pub parts : MarksEach (λ (s : Stmt). parts s.kind) (λ k. k) ss old_stmts new_stmts

-- functions over so many statements
pub record FunctionsOrdered (types stmts : ℕ) (fs : List FunDef) (old new : List Bool) : Type 0 where
  pub typed : (k : ℕ) (f : FunDef) → slice_get fs k ≡ Some f → FunctionTyped types f
  pub bodies : MarksEach (λ (f : FunDef). f.body ∷ []) (λ k. stmts) fs old new
