-- The two counts of a program that bound the steps of its run beside its weight, both in parts of 16 bytes.
use Rattle.std.specs.Prelude.{ℕ, ◌+◌, ◌/◌, List, Option, Some, None, slice_get, Bool, true, false, if◌then◌else◌}
use Rattle.std.specs.Prelude.{sum_by}
use Rattle.cap_concentrate.specs.Rounding.{owned}
use Rattle.c_tree.specs.Layout.{extent, bare, size_of}
use Rattle.c_tree.specs.declared.typed.CType.{CType}
use Rattle.c_tree.specs.declared.typed.CType.TheVariants as types
use Rattle.c_tree.specs.declared.typed.Typed.{Typed}
use Rattle.c_tree.specs.declared.typed.FunDef.{FunDef}
use Rattle.c_tree.specs.declared.typed.VarDef.{VarDef}
use Rattle.c_tree.specs.declared.typed.Expr.{Expr}
use Rattle.c_tree.specs.declared.typed.ExprKind.{ExprKind}
use Rattle.c_tree.specs.declared.typed.ExprKind.TheVariants as exprs
use Rattle.c_tree.specs.declared.typed.Stmt.{Stmt}
use Rattle.c_tree.specs.declared.typed.StmtKind.{StmtKind}
use Rattle.c_tree.specs.declared.typed.StmtKind.TheVariants as stmts

-- the parts of 16 bytes that n bytes take, the last one rounded up
abbrev pub parts : ℕ → ℕ
parts n = (n + 15) / 16

-- ---- granules: the parts of all locals that are objects

abbrev pub var_granules : List CType → VarDef → ℕ
var_granules types v = (if v.simple then 0 else parts (owned (size_of (extent types v.of))))

abbrev pub fun_granules : List CType → FunDef → ℕ
fun_granules types f = sum_by (var_granules types) f.vars

unfoldable pub granules : Typed → ℕ
granules p = sum_by (fun_granules p.types) p.funs

-- ---- copies: the parts of all struct and union values that are assigned, with which a local is initialised, or that a
-- conditional expression chooses

abbrev pub is_record : Option CType → Bool
is_record (Some (types.Struct tag ms)) = true
is_record (Some (types.Union tag ms)) = true
is_record _ = false

-- the parts of a value of a type, where that is a struct or a union
abbrev pub copied : List CType → ℕ → ℕ
copied types t = (if is_record (bare types t) then parts (size_of (extent types t)) else 0)

abbrev pub kind_copies : List CType → ExprKind → ℕ → ℕ
kind_copies types (exprs.Assign a b) t = copied types t
kind_copies types (exprs.Conditional c a b) t = copied types t
kind_copies types _ t = 0

abbrev pub expr_copies : List CType → Expr → ℕ
expr_copies types e = kind_copies types e.kind e.of

-- a value's type, by its number
abbrev pub value_copies : List CType → Option Expr → ℕ
value_copies types None = 0
value_copies types (Some e) = copied types e.of

abbrev pub init_copies : List CType → List Expr → StmtKind → ℕ
init_copies types es (stmts.Init var offset value) = value_copies types (slice_get es value)
init_copies types es _ = 0

abbrev pub stmt_copies : List CType → List Expr → Stmt → ℕ
stmt_copies types es s = init_copies types es s.kind

unfoldable pub copies : Typed → ℕ
copies p = sum_by (expr_copies p.types) p.exprs + sum_by (stmt_copies p.types p.exprs) p.stmts
