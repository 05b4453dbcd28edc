-- The work that a node asks for first is what the machine does first.
use Rattle.std.proofs.Common.{◌≡◌, ℕ, Bool, true, false, ltb, List, [], ◌∷◌, length, Option, Some, None, refl, ap}
use Rattle.obj_mem.specs.declared.value.Value.TheVariants as value
use Rattle.std.specs.Prelude.{map, is_some, ◌&&◌, ◌||◌, if◌then◌else◌, slice_get}
use Rattle.ck_base.specs.Runs.{Goes}
use Rattle.ck_base.specs.declared.positions.Pos.{Pos}
use Rattle.c_tree.specs.Layout.{bare}
use Rattle.c_tree.specs.declared.typed.Expr.{Expr}
use Rattle.c_tree.specs.declared.typed.ExprKind.{ExprKind}
use Rattle.c_tree.specs.declared.typed.ExprKind.TheVariants as exprs
use Rattle.c_tree.specs.declared.typed.UnaryOp.{UnaryOp}
use Rattle.c_tree.specs.declared.typed.UnaryOp.TheVariants as unary
use Rattle.c_tree.specs.declared.typed.Typed.{Typed}
use Rattle.c_tree.specs.declared.typed.VarDef.{VarDef}
use Rattle.cheri_c_sem.specs.Expressions.{kind_tree, expr_tree, arguments, bare_type, conversion_by, sign_of}
use Rattle.cheri_c_sem.specs.Kinds.{Kind, nothing}
use Rattle.cheri_c_sem.specs.Modes.{Store}
use Rattle.cheri_c_sem.specs.Operations.{Operations}
use Rattle.cheri_c_sem.specs.Tree.{Operation, Ex, Load, Aggregate, Discard, Binary, Assign, Copy, Variable, Local, Fun}
use Rattle.cheri_c_sem.specs.Types.{is_record, is_void, scalar_of, is_pointer, is_simple}
use Rattle.mean_steps.specs.Machine.{Evaluate, Designate, Finish, Moment, two, three, with_value, evaluate}
use Rattle.mean_steps.specs.Machine.{before_arguments}
use Rattle.mean_run.specs.declared.state.State.{State}
use Rattle.mean_work.specs.declared.work.Work.{Work}
use Rattle.mean_run.specs.Begun.{Begun, values_first, assigned}
use Rattle.mean_run.specs.Sources.{IsNode}
use Rattle.mean_run.specs.Steps.{Evaluates, IsPeeled, is_kept}
use Rattle.mean_run.specs.Views.{item_of, vars_at}
use Rattle.mean_run.proofs.Nodes.{no_node}

-- ---- trees that hang on a type

module _ (ops : Operations Store) (funs : List Fun) (m : Moment Store) where
  load_first : (c : Bool) (j : Kind) (x : Ex) →
      evaluate ops funs (if c then Aggregate x else Load j x) m
      ≡ Goes (two (Designate x) (Finish (if c then Aggregate x else Load j x)) m)
  load_first true j x = refl
  load_first false j x = refl

  assign_first : (c : Bool) (pos : Pos) (j : Kind) (bytes unit : ℕ) (x y : Ex) →
      evaluate ops funs (if c then Copy pos bytes unit x y else Assign j x y) m
      ≡ Goes (three (Designate x) (if c then Designate y else Evaluate y)
      (Finish (if c then Copy pos bytes unit x y else Assign j x y)) m)
  assign_first true pos j bytes unit x y = refl
  assign_first false pos j bytes unit x y = refl

  sum_first : (c : Bool) (pos : Pos) (o r : Operation) (x y : Ex) →
      evaluate ops funs (if c then Binary pos o x y else Binary pos r x y) m
      ≡ Goes (three (Evaluate x) (Evaluate y) (Finish (if c then Binary pos o x y else Binary pos r x y)) m)
  sum_first true pos o r x y = refl
  sum_first false pos o r x y = refl

  variable_first : (c : Bool) (pos : Pos) (x n : ℕ) →
      evaluate ops funs (if c then Variable pos x else Local pos n) m ≡ Goes (with_value nothing m)
  variable_first true pos x n = refl
  variable_first false pos x n = refl

  sign_first : (pos : Pos) (j : Kind) (x : Ex) (op : UnaryOp) →
      evaluate ops funs (sign_of pos j x op) m ≡ Goes (two (Evaluate x) (Finish (sign_of pos j x op)) m)
  sign_first pos j x unary.Plus = refl
  sign_first pos j x unary.Minus = refl
  sign_first pos j x unary.Complement = refl
  sign_first pos j x unary.LogicalNot = refl

  module _ (p : Typed) (vars : List VarDef) where
    abbrev converted : Bool → Pos → Option Kind → Option Kind → Bool → Ex → Ex
    converted v pos j l plain x = if v then Discard x else conversion_by p vars pos j l plain x

    convert_first : (v : Bool) (pos : Pos) (j l : Option Kind) (plain : Bool) (x : Ex) →
        (v || (is_some j && is_some l)) ≡ true →
        evaluate ops funs (converted v pos j l plain x) m
        ≡ Goes (two (Evaluate x) (Finish (converted v pos j l plain x)) m)
    convert_first true pos j l plain x h = refl
    convert_first false pos (Some j) (Some l) plain x h = refl
    convert_first false pos (Some j) None plain x h = absurd (let g : false ≡ true = h in cc)
    convert_first false pos None l plain x h = absurd (let g : false ≡ true = h in cc)

-- ---- the work

pub map_values_first : (p : Typed) (f : ℕ) (ks : List ℕ) (ws : List Work) →
    map (item_of p) (values_first f ks ws)
    ≡ before_arguments (arguments (expr_tree p (vars_at p f)) ks) (map (item_of p) ws)
map_values_first p f [] ws = refl
map_values_first p f (k ∷ ks) ws = ap (λ l. Evaluate (expr_tree p (vars_at p f) k) ∷ l) (map_values_first p f ks ws)

map_assigned : (p : Typed) (f b : ℕ) (c : Bool) →
    item_of p (assigned f b c)
    ≡ (if c then Designate (expr_tree p (vars_at p f) b) else Evaluate (expr_tree p (vars_at p f) b))
map_assigned p f b true = refl
map_assigned p f b false = refl

module _ (p : Typed) (f k : ℕ) where
  abbrev vars : List VarDef
  vars = vars_at p f

  abbrev tree : ℕ → Ex
  tree = expr_tree p (vars_at p f)

  abbrev Node : ℕ → Pos → ExprKind → Type 0
  Node of pos kind = tree k ≡ kind_tree p vars tree of pos kind

  abbrev Peeled : ℕ → ExprKind → Type 0
  Peeled of kind = (a : ℕ) → kind ≡ exprs.Convert a → is_kept (bare_type p vars a) (bare p.types of) ≡ true

  begins_by : (of : ℕ) (pos : Pos) (kind : ExprKind) (old new : State) → Node of pos kind → Peeled of kind →
      Begun p f k of kind old new → Evaluates p (tree k) old new
  begins_by of pos (exprs.Constant n) old new node peeled b = λ ops funs held. rw node (b ops funs held)
  begins_by of pos (exprs.Literal n) old new node peeled b = λ ops funs held. rw (b, node) refl
  begins_by of pos (exprs.Var x) old new node peeled b =
      λ ops funs held. rw (b, node) (variable_first ops funs _ (is_simple (slice_get vars x)) pos x _)
  begins_by of pos (exprs.Global g) old new node peeled b = λ ops funs held. rw (b, node) refl
  begins_by of pos (exprs.Fun g) old new node peeled b = λ ops funs held. rw (b, node) refl
  begins_by of pos (exprs.Load a) old new node peeled b =
      λ ops funs held. rw (b, node) (load_first ops funs _ (is_record (bare p.types of)) _ (tree a))
  begins_by of pos (exprs.Decay a) old new node peeled b = λ ops funs held. rw (b, node) refl
  begins_by of pos (exprs.Deref a) old new node peeled b = λ ops funs held. rw (b, node) refl
  begins_by of pos (exprs.Member a n) old new node peeled b = λ ops funs held. rw (b, node) refl
  begins_by of pos (exprs.Address a) old new node peeled b = λ ops funs held. rw (b, node) refl
  begins_by of pos (exprs.Convert a) old new node peeled b =
      λ ops funs held. rw (b, node) (convert_first ops funs _ p vars (is_void (bare p.types of)) pos
      (scalar_of (bare_type p vars a)) (scalar_of (bare p.types of)) _ (tree a) (peeled a refl))
  begins_by of pos (exprs.Unary op a) old new node peeled b =
      λ ops funs held. rw (b, node) (sign_first ops funs _ pos _ (tree a) op)
  begins_by of pos (exprs.Int op x y) old new node peeled b = λ ops funs held. rw (b, node) refl
  begins_by of pos (exprs.Capability op x y right) old new node peeled b = λ ops funs held. rw (b, node) refl
  begins_by of pos (exprs.Plus x y minus) old new node peeled b =
      λ ops funs held. rw (b, node)
      (sum_first ops funs _ (is_pointer (bare_type p vars x)) pos _ _ (tree x) (tree y))
  begins_by of pos (exprs.Difference x y) old new node peeled b = λ ops funs held. rw (b, node) refl
  begins_by of pos (exprs.Compare op x y) old new node peeled b = λ ops funs held. rw (b, node) refl
  begins_by of pos (exprs.And x y) old new node peeled b = λ ops funs held. rw (b, node) refl
  begins_by of pos (exprs.Or x y) old new node peeled b = λ ops funs held. rw (b, node) refl
  begins_by of pos (exprs.Conditional c x y) old new node peeled b = λ ops funs held. rw (b, node) refl
  begins_by of pos (exprs.Comma x y) old new node peeled b = λ ops funs held. rw (b, node) refl
  begins_by of pos (exprs.Assign x y) old new node peeled b =
      λ ops funs held. rw (b, map_assigned p f y (is_record (bare p.types of)), node)
      (assign_first ops funs _ (is_record (bare p.types of)) pos _ _ _ (tree x) (tree y))
  begins_by of pos (exprs.Compound op x y computed) old new node peeled b = λ ops funs held. rw (b, node) refl
  begins_by of pos (exprs.Step a adds front) old new node peeled b = λ ops funs held. rw (b, node) refl
  begins_by of pos (exprs.Call g args) old new node peeled b =
      λ ops funs held. rw (b, map_values_first p f args _, node) refl
  begins_by of pos (exprs.Library n args) old new node peeled b =
      λ ops funs held. rw (b, map_values_first p f args _, node) refl

  pub begins : (e : Expr) (old new : State) → IsNode p k e → IsPeeled p vars e → Begun p f k e.of e.kind old new →
      Evaluates p (tree k) old new
  begins e old new node peeled b = begins_by e.of e.pos e.kind old new (node vars) peeled b

  -- an expression that is not there
  pub begins_none : (old new : State) → false ≡ ltb k (length p.exprs) →
      new ≡ record old { values = value.Int 0 ∷ old.values } → Evaluates p (tree k) old new
  begins_none old new lt b = λ ops funs held. rw (b, no_node p vars k lt) refl
