-- The operation of a node that gives a place is that of its tree.
use Rattle.std.proofs.Common.{◌≡◌, ℕ, ltb, length, Bool, true, false, List, ◌∷◌, Option, Some, None, Result, Ok, Err}
use Rattle.std.proofs.Common.{refl, sym, ap, ◌∙◌}
use Rattle.std.specs.Prelude.{map, is_some, ◌&&◌, ◌||◌, slice_get, if◌then◌else◌}
use Rattle.ck_base.specs.Runs.{Act, Goes}
use Rattle.ck_base.specs.declared.positions.Pos.{Pos}
use Rattle.c_tree.specs.Layout.{bare}
use Rattle.c_tree.specs.declared.typed.Expr.{Expr}
use Rattle.c_tree.specs.declared.typed.ExprKind.{ExprKind}
use Rattle.c_tree.specs.declared.typed.ExprKind.TheVariants as exprs
use Rattle.c_tree.specs.declared.typed.UnaryOp.{UnaryOp}
use Rattle.c_tree.specs.declared.typed.UnaryOp.TheVariants as unary
use Rattle.c_tree.specs.declared.typed.Typed.{Typed}
use Rattle.c_tree.specs.declared.typed.VarDef.{VarDef}
use Rattle.obj_mem.specs.declared.ending.Ending.{Ending}
use Rattle.cheri_c_sem.specs.Expressions.{bare_type, constant, conversion_by, kind_tree, expr_tree, sign_of, type_of}
use Rattle.cheri_c_sem.specs.Kinds.{Kind, Plain, Capability}
use Rattle.cheri_c_sem.specs.Meaning.{Place}
use Rattle.cheri_c_sem.specs.Meaning as meaning
use Rattle.cheri_c_sem.specs.Modes.{Store}
use Rattle.cheri_c_sem.specs.Operations.{Operations}
use Rattle.cheri_c_sem.specs.Tree.{Operation, Ex, Number, Load, Aggregate, Discard, Binary, Assign, Copy, Variable}
use Rattle.cheri_c_sem.specs.Tree.{Local}
use Rattle.cheri_c_sem.specs.Tree.{Fun}
use Rattle.cheri_c_sem.specs.Types.{is_pointer, is_record, is_simple, is_void, kind_of, scalar_of}
use Rattle.mean_steps.specs.Machine.{Moment, behind, done_in, finish_place, first_place, with_place}
use Rattle.mean_steps.specs.Parts.{Came, copy}
use Rattle.mean_run.specs.declared.state.State.{State}
use Rattle.mean_work.specs.declared.work.Place as code_place
use Rattle.mean_work.specs.declared.work.Stop.{Stop}
use Rattle.mean_work.specs.declared.work.Stop.TheVariants as stop
use Rattle.mean_run.specs.Offsets.{HasMember}
use Rattle.mean_run.specs.Parts.{Does, LeavesIt, Unless_wanting}
use Rattle.mean_run.specs.Placed.{PlaceFinishedBy, nowhere}
use Rattle.mean_run.specs.Sources.{IsNode}
use Rattle.mean_run.specs.Sizes.{IsSizedBy}
use Rattle.mean_run.specs.Steps.{IsPeeled, is_kept}
use Rattle.mean_run.specs.Views.{funs_of, moment_of, now_of, vars_at}
use Rattle.mean_work.specs.Places.{place_of}
use Rattle.mean_run.proofs.Nodes.{no_node}
use Rattle.mean_run.proofs.Tops.{map_behind}

module _ (ops : Operations Store) (funs : List Fun) (m : Moment Store) where
  abbrev Idle : Ex → Type 0
  Idle e = finish_place ops funs e m ≡ Goes (with_place meaning.nowhere m)

  constant_idle : (n : ℕ) (k : Kind) → Idle (constant n k)
  constant_idle n (Plain k) = refl
  constant_idle n (Capability signed) = refl

  variable_idle : (c : Bool) (pos : Pos) (x n : ℕ) → Idle (if c then Variable pos x else Local pos n)
  variable_idle true pos x n = refl
  variable_idle false pos x n = refl

  load_idle : (c : Bool) (k : Kind) (x : Ex) → Idle (if c then Aggregate x else Load k x)
  load_idle true k x = refl
  load_idle false k x = refl

  sum_idle : (c : Bool) (pos : Pos) (o r : Operation) (x y : Ex) →
      Idle (if c then Binary pos o x y else Binary pos r x y)
  sum_idle true pos o r x y = refl
  sum_idle false pos o r x y = refl

  sign_idle : (pos : Pos) (j : Kind) (x : Ex) (op : UnaryOp) → Idle (sign_of pos j x op)
  sign_idle pos j x unary.Plus = refl
  sign_idle pos j x unary.Minus = refl
  sign_idle pos j x unary.Complement = refl
  sign_idle pos j x unary.LogicalNot = refl

  convert_idle : (p : Typed) (vars : List VarDef) (v : Bool) (pos : Pos) (j l : Option Kind) (plain : Bool)
      (x : Ex) → (v || (is_some j && is_some l)) ≡ true →
      Idle (if v then Discard x else conversion_by p vars pos j l plain x)
  convert_idle p vars true pos j l plain x h = refl
  convert_idle p vars false pos (Some j) (Some l) plain x h = refl
  convert_idle p vars false pos (Some j) None plain x h = absurd (let g : false ≡ true = h in cc)
  convert_idle p vars false pos None l plain x h = absurd (let g : false ≡ true = h in cc)

module _ (ops : Operations Store) (p : Typed) (f k : ℕ) (held left : Store) (old new : State)
    (r : Result (Unit {0}) Stop) where
  abbrev vars : List VarDef
  vars = vars_at p f

  abbrev node : ℕ → Ex
  node = expr_tree p (vars_at p f)

  abbrev m : Moment Store
  m = moment_of p old held

  abbrev Done : Ex → Type 0
  Done e = Does (finish_place ops (funs_of p) e (moment_of p old held)) (moment_of p new left) r

  idle : (s : Result (Unit {0}) Stop) (e : Ex) →
      finish_place ops (funs_of p) e m ≡ Goes (with_place meaning.nowhere m) →
      Unless_wanting s ((new ≡ nowhere old) × (left ≡ held)) →
      Does (finish_place ops (funs_of p) e (moment_of p old held)) (moment_of p new left) s
  idle (Ok u) e h q = rw (q.0, q.1) h
  idle (Err stop.NoMemory) e h q = tt
  idle (Err (stop.Ended x)) e h q = absurd q

  finishes_by : (of : ℕ) (pos : Pos) (kind : ExprKind) → node k ≡ kind_tree p vars node of pos kind →
      ((a : ℕ) → kind ≡ exprs.Convert a → is_kept (bare_type p vars a) (bare p.types of) ≡ true) →
      ((a n : ℕ) → kind ≡ exprs.Member a n → HasMember p.types (type_of (slice_get p.exprs a)) n) →
      IsSizedBy p of kind → PlaceFinishedBy ops p f held left old new r of pos kind → Done (node k)
  finishes_by of pos (exprs.Deref a) e peeled has sized b = rw e (b (node a))
  finishes_by of pos (exprs.Member a n) e peeled has sized b = rw e (b (has a n refl) (node a))
  finishes_by of pos (exprs.Assign x y) e peeled has sized b = rw e (b sized (node x) (node y))
  finishes_by of pos (exprs.Constant n) e peeled has sized b =
      rw e (idle r (kind_tree p vars node of pos (exprs.Constant n))
      (constant_idle ops (funs_of p) m n (kind_of (bare p.types of))) b)
  finishes_by of pos (exprs.Literal n) e peeled has sized b =
      rw e (idle r (kind_tree p vars node of pos (exprs.Literal n)) refl b)
  finishes_by of pos (exprs.Var x) e peeled has sized b =
      rw e (idle r (kind_tree p vars node of pos (exprs.Var x))
      (variable_idle ops (funs_of p) m (is_simple (slice_get vars x)) pos x _) b)
  finishes_by of pos (exprs.Global g) e peeled has sized b =
      rw e (idle r (kind_tree p vars node of pos (exprs.Global g)) refl b)
  finishes_by of pos (exprs.Fun g) e peeled has sized b =
      rw e (idle r (kind_tree p vars node of pos (exprs.Fun g)) refl b)
  finishes_by of pos (exprs.Load a) e peeled has sized b =
      rw e (idle r (kind_tree p vars node of pos (exprs.Load a))
      (load_idle ops (funs_of p) m (is_record (bare p.types of)) _ (node a)) b)
  finishes_by of pos (exprs.Decay a) e peeled has sized b =
      rw e (idle r (kind_tree p vars node of pos (exprs.Decay a)) refl b)
  finishes_by of pos (exprs.Address a) e peeled has sized b =
      rw e (idle r (kind_tree p vars node of pos (exprs.Address a)) refl b)
  finishes_by of pos (exprs.Convert a) e peeled has sized b =
      rw e (idle r (kind_tree p vars node of pos (exprs.Convert a))
      (convert_idle ops (funs_of p) m p vars (is_void (bare p.types of)) pos (scalar_of (bare_type p vars a))
      (scalar_of (bare p.types of)) _ (node a) (peeled a refl)) b)
  finishes_by of pos (exprs.Unary op a) e peeled has sized b =
      rw e (idle r (kind_tree p vars node of pos (exprs.Unary op a)) (sign_idle ops (funs_of p) m pos _ (node a) op) b)
  finishes_by of pos (exprs.Int op x y) e peeled has sized b =
      rw e (idle r (kind_tree p vars node of pos (exprs.Int op x y)) refl b)
  finishes_by of pos (exprs.Capability op x y right) e peeled has sized b =
      rw e (idle r (kind_tree p vars node of pos (exprs.Capability op x y right)) refl b)
  finishes_by of pos (exprs.Plus x y minus) e peeled has sized b =
      rw e (idle r (kind_tree p vars node of pos (exprs.Plus x y minus))
      (sum_idle ops (funs_of p) m (is_pointer (bare_type p vars x)) pos _ _ (node x) (node y)) b)
  finishes_by of pos (exprs.Difference x y) e peeled has sized b =
      rw e (idle r (kind_tree p vars node of pos (exprs.Difference x y)) refl b)
  finishes_by of pos (exprs.Compare op x y) e peeled has sized b =
      rw e (idle r (kind_tree p vars node of pos (exprs.Compare op x y)) refl b)
  finishes_by of pos (exprs.And x y) e peeled has sized b =
      rw e (idle r (kind_tree p vars node of pos (exprs.And x y)) refl b)
  finishes_by of pos (exprs.Or x y) e peeled has sized b =
      rw e (idle r (kind_tree p vars node of pos (exprs.Or x y)) refl b)
  finishes_by of pos (exprs.Conditional c x y) e peeled has sized b =
      rw e (idle r (kind_tree p vars node of pos (exprs.Conditional c x y)) refl b)
  finishes_by of pos (exprs.Comma x y) e peeled has sized b =
      rw e (idle r (kind_tree p vars node of pos (exprs.Comma x y)) refl b)
  finishes_by of pos (exprs.Compound op x y computed) e peeled has sized b =
      rw e (idle r (kind_tree p vars node of pos (exprs.Compound op x y computed)) refl b)
  finishes_by of pos (exprs.Step a adds front) e peeled has sized b =
      rw e (idle r (kind_tree p vars node of pos (exprs.Step a adds front)) refl b)
  finishes_by of pos (exprs.Call g args) e peeled has sized b =
      rw e (idle r (kind_tree p vars node of pos (exprs.Call g args)) refl b)
  finishes_by of pos (exprs.Library n args) e peeled has sized b =
      rw e (idle r (kind_tree p vars node of pos (exprs.Library n args)) refl b)

  pub place_finishes : (e : Expr) → IsNode p k e → IsPeeled p vars e →
      ((a n : ℕ) → e.kind ≡ exprs.Member a n → HasMember p.types (type_of (slice_get p.exprs a)) n) →
      IsSizedBy p e.of e.kind → PlaceFinishedBy ops p f held left old new r e.of e.pos e.kind → Done (node k)
  place_finishes e at peeled has sized b = finishes_by e.of e.pos e.kind (at vars) peeled has sized b

  pub place_none : false ≡ ltb k (length p.exprs) → Unless_wanting r ((new ≡ nowhere old) × (left ≡ held)) →
      Done (node k)
  place_none lt q = rw (no_node p vars k lt) (idle r (Number 0) refl q)

  pub assigned_nowhere : (c : Bool) (pos : Pos) (j : Kind) (bytes unit : ℕ) (x y : Ex) → c ≡ false →
      Unless_wanting r ((new ≡ nowhere old) × (left ≡ held)) →
      Done (if c then Copy pos bytes unit x y else Assign j x y)
  assigned_nowhere true pos j bytes unit x y h q = absurd (let e : true ≡ false = h in cc)
  assigned_nowhere false pos j bytes unit x y h q = idle r (Assign j x y) refl q

-- a struct or union was copied, and where it went is the place
module _ (ops : Operations Store) (p : Typed) (held left : Store) (old s t : State) (pos : Pos) (bytes unit : ℕ)
    (from to : code_place.Place) (x y : Ex) (s_is : s ≡ record old { places = behind old.places })
    (t_is : t ≡ record s { places = behind s.places }) (from_is : place_of from ≡ first_place (map place_of old.places))
    (to_is : place_of to ≡ first_place (map place_of s.places)) where
  abbrev copies : Came Store (Unit {0})
  copies = copy ops pos bytes unit (place_of from) (place_of to) (now_of t held)

  abbrev whole : Act (Moment Store) Ending
  whole = finish_place ops (funs_of p) (Copy pos bytes unit x y) (moment_of p old held)

  copied_is : done_in (moment_of p t held) (λ (_ : Unit {0}) n. Goes (with_place (place_of to) n)) copies ≡ whole
  copied_is =
      let at : place_of to ≡ first_place (behind (map place_of old.places)) =
      to_is ∙ rw (s_is, map_behind place_of old.places) refl in
      rw (t_is, s_is, from_is, at, map_behind place_of (behind old.places), map_behind place_of old.places) refl

  pub copy_over : (e : Stop) (m : Moment Store) → LeavesIt copies (now_of t held) (Err e) → Does whole m (Err e)
  copy_over stop.NoMemory m d = absurd d
  copy_over (stop.Ended z) m d =
      sym copied_is ∙ ap (done_in (moment_of p t held) (λ (_ : Unit {0}) n. Goes (with_place (place_of to) n))) d

  pub copy_designated : (new : State) (r : Result (Unit {0}) Stop) → LeavesIt copies (now_of t left) (Ok tt) →
      Unless_wanting r (new ≡ record t { places = to ∷ t.places }) → Does whole (moment_of p new left) r
  copy_designated new (Ok u) d q =
      sym copied_is
      ∙ (ap (done_in (moment_of p t held) (λ (_ : Unit {0}) n. Goes (with_place (place_of to) n))) d ∙ rw q refl)
  copy_designated new (Err stop.NoMemory) d q = tt
  copy_designated new (Err (stop.Ended z)) d q = absurd q
