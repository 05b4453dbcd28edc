-- What a node of a program asks for first.
use Rattle.std.specs.Prelude.{◌≡◌, ℕ, ◌+◌, ◌&&◌, not, Bool, true, false, List, [], ◌∷◌, Option, Some, None, slice_get}
use Rattle.c_tree.specs.Layout.{bare}
use Rattle.c_tree.specs.declared.typed.ExprKind.{ExprKind}
use Rattle.c_tree.specs.declared.typed.ExprKind.TheVariants as exprs
use Rattle.c_tree.specs.declared.typed.StmtKind.{StmtKind}
use Rattle.c_tree.specs.declared.typed.StmtKind.TheVariants as stmts
use Rattle.c_tree.specs.declared.typed.Typed.{Typed}
use Rattle.obj_mem.specs.declared.value.Value.TheVariants as value
use Rattle.cheri_c_sem.specs.Expressions.{constant, type_of}
use Rattle.cheri_c_sem.specs.Types.{is_record, is_simple, kind_of}
use Rattle.mean_run.specs.declared.state.State.{State}
use Rattle.mean_work.specs.declared.work.Work.{Work}
use Rattle.mean_work.specs.declared.work.Work.TheVariants as work
use Rattle.mean_run.specs.Steps.{Evaluates}
use Rattle.mean_run.specs.Views.{vars_at}

-- the values of expressions of function f, the first one first, and then other work
abbrev pub values_first : ℕ → List ℕ → List Work → List Work
values_first f [] ws = ws
values_first f (k ∷ ks) ws = work.Value f k ∷ values_first f ks ws

-- what an assignment gets: a value, or a struct or union by its place
abbrev pub assigned : ℕ → ℕ → Bool → Work
assigned f b true = work.Place f b
assigned f b false = work.Value f b

-- expression k of function f, of a type and a kind
abbrev pub Begun : Typed → (f k of : ℕ) → ExprKind → State → State → Type 0
Begun p f k of (exprs.Constant n) old new = Evaluates p (constant n (kind_of (bare p.types of))) old new
Begun p f k of (exprs.Literal n) old new = new ≡ record old { values = value.Int 0 ∷ old.values }
Begun p f k of (exprs.Var x) old new = new ≡ record old { values = value.Int 0 ∷ old.values }
Begun p f k of (exprs.Global g) old new = new ≡ record old { values = value.Int 0 ∷ old.values }
Begun p f k of (exprs.Fun g) old new = new ≡ record old { values = value.Fun g ∷ old.values }
Begun p f k of (exprs.Load a) old new =
    new ≡ record old { work = work.Place f a ∷ work.Finish f k ∷ old.work }
Begun p f k of (exprs.Decay a) old new =
    new ≡ record old { work = work.Place f a ∷ work.Finish f k ∷ old.work }
Begun p f k of (exprs.Deref a) old new =
    new ≡ record old { work = work.Value f a ∷ work.Finish f k ∷ old.work }
Begun p f k of (exprs.Member a m) old new =
    new ≡ record old { work = work.Place f a ∷ work.Finish f k ∷ old.work }
Begun p f k of (exprs.Address a) old new =
    new ≡ record old { work = work.Place f a ∷ work.Finish f k ∷ old.work }
Begun p f k of (exprs.Convert a) old new =
    new ≡ record old { work = work.Value f a ∷ work.Finish f k ∷ old.work }
Begun p f k of (exprs.Unary op a) old new =
    new ≡ record old { work = work.Value f a ∷ work.Finish f k ∷ old.work }
Begun p f k of (exprs.Int op a b) old new =
    new ≡ record old { work = work.Value f a ∷ work.Value f b ∷ work.Finish f k ∷ old.work }
Begun p f k of (exprs.Capability op a b right) old new =
    new ≡ record old { work = work.Value f a ∷ work.Value f b ∷ work.Finish f k ∷ old.work }
Begun p f k of (exprs.Plus a b minus) old new =
    new ≡ record old { work = work.Value f a ∷ work.Value f b ∷ work.Finish f k ∷ old.work }
Begun p f k of (exprs.Difference a b) old new =
    new ≡ record old { work = work.Value f a ∷ work.Value f b ∷ work.Finish f k ∷ old.work }
Begun p f k of (exprs.Compare op a b) old new =
    new ≡ record old { work = work.Value f a ∷ work.Value f b ∷ work.Finish f k ∷ old.work }
Begun p f k of (exprs.And a b) old new =
    new ≡ record old { work = work.Value f a ∷ work.Choose f k ∷ old.work }
Begun p f k of (exprs.Or a b) old new =
    new ≡ record old { work = work.Value f a ∷ work.Choose f k ∷ old.work }
Begun p f k of (exprs.Conditional c a b) old new =
    new ≡ record old { work = work.Value f c ∷ work.Choose f k ∷ old.work }
Begun p f k of (exprs.Comma a b) old new =
    new ≡ record old { work = work.Value f a ∷ work.Drop ∷ work.Value f b ∷ old.work }
Begun p f k of (exprs.Assign a b) old new =
    new ≡ record old {
      work = work.Place f a ∷ assigned f b (is_record (bare p.types of)) ∷ work.Finish f k ∷ old.work;
    }
Begun p f k of (exprs.Compound op a b computed) old new =
    new ≡ record old { work = work.Place f a ∷ work.Value f b ∷ work.Finish f k ∷ old.work }
Begun p f k of (exprs.Step a adds front) old new =
    new ≡ record old { work = work.Place f a ∷ work.One ∷ work.Finish f k ∷ old.work }
Begun p f k of (exprs.Call g args) old new =
    new ≡ record old { work = work.Value f g ∷ values_first f args (work.Finish f k ∷ old.work) }
Begun p f k of (exprs.Library n args) old new =
    new ≡ record old { work = values_first f args (work.Finish f k ∷ old.work) }

-- ---- statements

-- statement k of function f, of a kind that neither enters a block nor jumps
abbrev pub Executed : Typed → (f k : ℕ) → StmtKind → State → State → Type 0
Executed p f k (stmts.Expr e) old new = new ≡ record old { work = work.Value f e ∷ work.Drop ∷ old.work }
Executed p f k (stmts.Init x offset e) old new =
    new ≡ record old {
      work = assigned f e (not (is_simple (slice_get (vars_at p f) x))
          && is_record (bare p.types (type_of (slice_get p.exprs e)))) ∷ work.Initialize f k ∷ old.work;
    }
Executed p f k (stmts.Block xs ks) old new = Unit {0}
Executed p f k (stmts.If c a b) old new = new ≡ record old { work = work.Value f c ∷ work.Branch f k ∷ old.work }
Executed p f k (stmts.While c a) old new = new ≡ record old { work = work.Test f k ∷ old.work }
Executed p f k (stmts.Do a c) old new = new ≡ record old { work = work.Statement f a ∷ work.Again f k ∷ old.work }
Executed p f k (stmts.For xs first test step a) old new = Unit {0}
Executed p f k (stmts.Switch on xs labels ks) old new =
    new ≡ record old { work = work.Value f on ∷ work.Switch f k ∷ old.work }
Executed p f k stmts.Break old new = Unit {0}
Executed p f k stmts.Continue old new = Unit {0}
Executed p f k (stmts.Return None) old new = Unit {0}
Executed p f k (stmts.Return (Some e)) old new = new ≡ record old { work = work.Value f e ∷ work.Give ∷ old.work }
Executed p f k stmts.Empty old new = new ≡ old

-- a loop at its test
abbrev pub tests : (f k : ℕ) → StmtKind → List Work → List Work
tests f k (stmts.While c a) ws = work.Value f c ∷ work.Tested f k ∷ ws
tests f k (stmts.Do a c) ws = work.Value f c ∷ work.Tested f k ∷ ws
tests f k (stmts.For xs first (Some c) step a) ws = work.Value f c ∷ work.Tested f k ∷ ws
tests f k (stmts.For xs first None step a) ws = work.Statement f a ∷ work.Again f k ∷ ws
tests f k s ws = work.Nothing ∷ work.Again f k ∷ ws

-- the statements that stand in a block or `switch`, or before the first test of a `for`
abbrev pub parts_in : StmtKind → List ℕ
parts_in (stmts.Block xs ks) = ks
parts_in (stmts.For xs first test step a) = first
parts_in (stmts.Switch on xs labels ks) = ks
parts_in s = []

-- the next of some statements, if there is one
abbrev pub next_one : (f k n : ℕ) → Option ℕ → List Work → List Work
next_one f k n None ws = ws
next_one f k n (Some a) ws = work.Statement f a ∷ work.Rest f k (n + 1) ∷ ws

-- the variables whose scope is a block, a `for` or a `switch`
abbrev pub declared_in : StmtKind → List ℕ
declared_in (stmts.Block xs ks) = xs
declared_in (stmts.For xs first test step a) = xs
declared_in (stmts.Switch q xs labels ks) = xs
declared_in s = []
