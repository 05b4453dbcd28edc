-- What a step that only goes on does.
use Rattle.std.specs.Prelude.{◌≡◌, ℕ, ◌&&◌, ◌||◌, Bool, true, false, is_some, List, Option}
use Rattle.c_tree.specs.declared.typed.ExprKind.{ExprKind}
use Rattle.c_tree.specs.Layout.{bare}
use Rattle.c_tree.specs.declared.typed.CType.{CType}
use Rattle.c_tree.specs.declared.typed.Expr.{Expr}
use Rattle.c_tree.specs.declared.typed.ExprKind.TheVariants as exprs
use Rattle.c_tree.specs.declared.typed.VarDef.{VarDef}
use Rattle.cheri_c_sem.specs.Expressions.{bare_type}
use Rattle.cheri_c_sem.specs.Types.{scalar_of, is_void}
use Rattle.ck_base.specs.Runs.{Goes}
use Rattle.c_tree.specs.declared.typed.Typed.{Typed}
use Rattle.cheri_c_sem.specs.Modes.{Store}
use Rattle.cheri_c_sem.specs.Operations.{Operations}
use Rattle.cheri_c_sem.specs.Tree.{Ex, St, Sts, Fun}
use Rattle.mean_steps.specs.Machine.{Loop, evaluate, execute, proceed, at_test}
use Rattle.mean_run.specs.Views.{moment_of}
use Rattle.mean_run.specs.declared.state.State.{State}

-- the first step of an expression, whatever the operations on memory are
abbrev pub Evaluates : Typed → Ex → State → State → Type 0
Evaluates p e old new = (ops : Operations Store) (funs : List Fun) (held : Store) →
    evaluate ops funs e (moment_of p old held) ≡ Goes (moment_of p new held)

-- a conversion is a node of its own: to void, or of a scalar to a scalar
abbrev pub is_kept : Option CType → Option CType → Bool
is_kept old new = is_void new || (is_some (scalar_of old) && is_some (scalar_of new))

-- an expression that is no conversion of a struct or union to its own type
abbrev pub IsPeeled : Typed → List VarDef → Expr → Type 0
IsPeeled p vars e = (a : ℕ) → e.kind ≡ exprs.Convert a → is_kept (bare_type p vars a) (bare p.types e.of) ≡ true

-- the first step of a statement, and of statements one after another
abbrev pub Executes : Typed → St → State → State → Type 0
Executes p a old new = (ops : Operations Store) (funs : List Fun) (held : Store) →
    execute ops funs a (moment_of p old held) ≡ Goes (moment_of p new held)

abbrev pub Proceeds : Typed → Sts → State → State → Type 0
Proceeds p ss old new = (ops : Operations Store) (funs : List Fun) (held : Store) →
    proceed ops funs ss (moment_of p old held) ≡ Goes (moment_of p new held)

-- a loop at its test
abbrev pub ComesToTest : Typed → Loop → State → State → Type 0
ComesToTest p l old new =
    (ops : Operations Store) (funs : List Fun) (held : Store) →
    at_test ops funs l (moment_of p old held) ≡ Goes (moment_of p new held)

-- calls of functions, library functions and intrinsics
abbrev pub is_call : ExprKind → Bool
is_call (exprs.Call f args) = true
is_call (exprs.Library n args) = true
is_call e = false
