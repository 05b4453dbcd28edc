-- The work that a node whose place is wanted asks for first is what the machine does first.
use Rattle.std.proofs.Common.{◌≡◌, ℕ, ◌+◌, ◌^◌, ◌<◌, Bool, true, false, ltb, List, ◌∷◌, Option, Some, None, length}
use Rattle.std.proofs.Common.{refl}
use Rattle.std.specs.Prelude.{is_some, not, ◌&&◌, ◌||◌, if◌then◌else◌}
use Rattle.ck_base.specs.Runs.{Goes}
use Rattle.ck_base.specs.declared.positions.Pos.{Pos}
use Rattle.c_tree.specs.Layout.{bare}
use Rattle.c_tree.specs.declared.typed.Expr.{Expr}
use Rattle.c_tree.specs.declared.typed.ExprKind.{ExprKind}
use Rattle.c_tree.specs.declared.typed.ExprKind.TheVariants as exprs
use Rattle.c_tree.specs.declared.typed.UnaryOp.{UnaryOp}
use Rattle.c_tree.specs.declared.typed.UnaryOp.TheVariants as unary
use Rattle.c_tree.specs.declared.typed.Typed.{Typed}
use Rattle.c_tree.specs.declared.typed.VarDef.{VarDef}
use Rattle.cap_ops.specs.Permissions.{data_permissions}
use Rattle.obj_mem.specs.declared.value.Value as public
use Rattle.obj_mem.specs.Values.{value_of}
use Rattle.cheri_c_sem.specs.Expressions.{kind_tree, expr_tree, bare_type, constant, conversion_by, sign_of}
use Rattle.cheri_c_sem.specs.Kinds.{Kind, Plain, Capability}
use Rattle.cheri_c_sem.specs.Meaning as meaning
use Rattle.cheri_c_sem.specs.Modes.{Store}
use Rattle.cheri_c_sem.specs.Operations.{Operations}
use Rattle.cheri_c_sem.specs.Tree.{Operation, Ex, Load, Aggregate, Discard, Binary, Assign, Copy, Variable, Local}
use Rattle.cheri_c_sem.specs.Tree.{Object, Fun}
use Rattle.cheri_c_sem.specs.Types.{is_record, is_void, scalar_of, is_pointer, kind_of}
use Rattle.mean_steps.specs.Machine.{Moment, with_place, designate}
use Rattle.mean_run.specs.declared.state.State.{State}
use Rattle.mean_work.specs.declared.work.Place.TheVariants as place
use Rattle.mean_run.specs.Placed.{Designates, Placed, nowhere, taken_from, assigned_to}
use Rattle.mean_run.specs.Sources.{IsNode}
use Rattle.mean_run.specs.Steps.{IsPeeled, is_kept}
use Rattle.mean_run.specs.Views.{vars_at, funs_of}
use Rattle.mean_run.proofs.Nodes.{no_node}

-- ---- trees that hang on a type and designate nothing

module _ (ops : Operations Store) (funs : List Fun) (m : Moment Store) where
  abbrev Nowhere : Ex → Type 0
  Nowhere e = designate ops funs e m ≡ Goes (with_place meaning.nowhere m)

  constant_nowhere : (n : ℕ) (k : Kind) → Nowhere (constant n k)
  constant_nowhere n (Plain k) = refl
  constant_nowhere n (Capability signed) = refl

  sum_nowhere : (c : Bool) (pos : Pos) (o r : Operation) (x y : Ex) →
      Nowhere (if c then Binary pos o x y else Binary pos r x y)
  sum_nowhere true pos o r x y = refl
  sum_nowhere false pos o r x y = refl

  sign_nowhere : (pos : Pos) (j : Kind) (x : Ex) (op : UnaryOp) → Nowhere (sign_of pos j x op)
  sign_nowhere pos j x unary.Plus = refl
  sign_nowhere pos j x unary.Minus = refl
  sign_nowhere pos j x unary.Complement = refl
  sign_nowhere pos j x unary.LogicalNot = refl

  convert_nowhere : (p : Typed) (vars : List VarDef) (v : Bool) (pos : Pos) (j l : Option Kind) (plain : Bool)
      (x : Ex) →
      (v || (is_some j && is_some l)) ≡ true →
      Nowhere (if v then Discard x else conversion_by p vars pos j l plain x)
  convert_nowhere p vars true pos j l plain x h = refl
  convert_nowhere p vars false pos (Some j) (Some l) plain x h = refl
  convert_nowhere p vars false pos (Some j) None plain x h = absurd (let g : false ≡ true = h in cc)
  convert_nowhere p vars false pos None l plain x h = absurd (let g : false ≡ true = h in cc)

module _ (ops : Operations Store) (held : Store) (p : Typed) (f k : ℕ) (old : State) where
  abbrev tree : ℕ → Ex
  tree = expr_tree p (vars_at p f)

  load_place : (c : Bool) (j : Kind) (a : ℕ) →
      Designates ops held p (if c then Aggregate (tree a) else Load j (tree a)) old (taken_from f a c old)
  load_place true j a = refl
  load_place false j a = refl

  -- where the node is this assignment
  assign_place : (c : Bool) (pos : Pos) (j : Kind) (bytes unit a b : ℕ) →
      tree k ≡ (if c then Copy pos bytes unit (tree a) (tree b) else Assign j (tree a) (tree b)) →
      Designates ops held p (tree k) old (assigned_to f k a b c old)
  assign_place true pos j bytes unit a b node = rw node refl
  assign_place false pos j bytes unit a b node = rw node refl

  -- a variable that is an object
  pub object_place : (b : Bool) (pos : Pos) (x n : ℕ) (v : public.Value) (new : State) → not b ≡ true →
      value_of v ≡ ops.whole held (old.call.first + n) data_permissions →
      new ≡ record old { places = place.At pos v ∷ old.places } →
      Designates ops held p (if b then Variable pos x else Local pos n) old new
  object_place true pos x n v new h w q = absurd (let e : false ≡ true = h in cc)
  object_place false pos x n v new h w q = rw (q, w) refl

  -- an object by its number
  pub global_is : (pos : Pos) (object permissions : ℕ) (v : public.Value) (new : State) →
      value_of v ≡ ops.whole held object permissions →
      new ≡ record old { places = place.At pos v ∷ old.places } →
      Designates ops held p (Object pos object permissions) old new
  global_is pos object permissions v new w q = rw (q, w) refl

  abbrev Node : ℕ → Pos → ExprKind → Type 0
  Node of pos kind = tree k ≡ kind_tree p (vars_at p f) tree of pos kind

  abbrev Peeled : ℕ → ExprKind → Type 0
  Peeled of kind =
      (a : ℕ) → kind ≡ exprs.Convert a → is_kept (bare_type p (vars_at p f) a) (bare p.types of) ≡ true

  places_by : length p.globals < 2 ^ 32 → (of : ℕ) (pos : Pos) (kind : ExprKind) (new : State) →
      Node of pos kind → Peeled of kind → Placed ops held p f k of pos kind old new →
      Designates ops held p (tree k) old new
  places_by few of pos (exprs.Constant n) new node peeled b =
      rw (b, node) (constant_nowhere ops (funs_of p) _ n (kind_of (bare p.types of)))
  places_by few of pos (exprs.Literal n) new node peeled b = rw node (b few)
  places_by few of pos (exprs.Var x) new node peeled b = rw node b
  places_by few of pos (exprs.Global g) new node peeled b = rw node b
  places_by few of pos (exprs.Fun g) new node peeled b = rw (b, node) refl
  places_by few of pos (exprs.Load a) new node peeled b = rw (b, node) (load_place (is_record (bare p.types of)) _ a)
  places_by few of pos (exprs.Decay a) new node peeled b = rw (b, node) refl
  places_by few of pos (exprs.Deref a) new node peeled b = rw (b, node) refl
  places_by few of pos (exprs.Member a n) new node peeled b = rw (b, node) refl
  places_by few of pos (exprs.Address a) new node peeled b = rw (b, node) refl
  places_by few of pos (exprs.Convert a) new node peeled b =
      rw (b, node) (convert_nowhere ops (funs_of p) _ p (vars_at p f) (is_void (bare p.types of)) pos
      (scalar_of (bare_type p (vars_at p f) a)) (scalar_of (bare p.types of)) _ (tree a) (peeled a refl))
  places_by few of pos (exprs.Unary op a) new node peeled b =
      rw (b, node) (sign_nowhere ops (funs_of p) _ pos _ (tree a) op)
  places_by few of pos (exprs.Int op x y) new node peeled b = rw (b, node) refl
  places_by few of pos (exprs.Capability op x y right) new node peeled b = rw (b, node) refl
  places_by few of pos (exprs.Plus x y minus) new node peeled b =
      rw (b, node)
      (sum_nowhere ops (funs_of p) _ (is_pointer (bare_type p (vars_at p f) x)) pos _ _ (tree x) (tree y))
  places_by few of pos (exprs.Difference x y) new node peeled b = rw (b, node) refl
  places_by few of pos (exprs.Compare op x y) new node peeled b = rw (b, node) refl
  places_by few of pos (exprs.And x y) new node peeled b = rw (b, node) refl
  places_by few of pos (exprs.Or x y) new node peeled b = rw (b, node) refl
  places_by few of pos (exprs.Conditional c x y) new node peeled b = rw (b, node) refl
  places_by few of pos (exprs.Comma x y) new node peeled b = rw (b, node) refl
  places_by few of pos (exprs.Assign x y) new node peeled b =
      rw b (assign_place (is_record (bare p.types of)) pos _ _ _ x y node)
  places_by few of pos (exprs.Compound op x y computed) new node peeled b = rw (b, node) refl
  places_by few of pos (exprs.Step a adds front) new node peeled b = rw (b, node) refl
  places_by few of pos (exprs.Call g args) new node peeled b = rw (b, node) refl
  places_by few of pos (exprs.Library n args) new node peeled b = rw (b, node) refl

  pub places : length p.globals < 2 ^ 32 → (e : Expr) (new : State) → IsNode p k e → IsPeeled p (vars_at p f) e →
      Placed ops held p f k e.of e.pos e.kind old new → Designates ops held p (tree k) old new
  places few e new node peeled b = places_by few e.of e.pos e.kind new (node (vars_at p f)) peeled b

  -- an expression that is not there
  pub places_none : (new : State) → false ≡ ltb k (length p.exprs) → new ≡ nowhere old →
      Designates ops held p (tree k) old new
  places_none new lt b = rw (b, no_node p (vars_at p f) k lt) refl
