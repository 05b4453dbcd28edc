-- The operation of a node is that of its tree.
use Rattle.std.proofs.Common.{◌≡◌, ℕ, ltb, length, Bool, true, false, List, ◌∷◌, Result, Ok, Err, refl}
use Rattle.std.specs.Prelude.{slice_get, if◌then◌else◌}
use Rattle.ck_base.specs.Runs.{Goes}
use Rattle.ck_base.specs.declared.positions.Pos.{Pos}
use Rattle.c_tree.specs.Layout.{bare}
use Rattle.c_tree.specs.declared.typed.Expr.{Expr}
use Rattle.c_tree.specs.declared.typed.ExprKind.{ExprKind}
use Rattle.c_tree.specs.declared.typed.ExprKind.TheVariants as exprs
use Rattle.c_tree.specs.declared.typed.Typed.{Typed}
use Rattle.c_tree.specs.declared.typed.VarDef.{VarDef}
use Rattle.obj_mem.specs.declared.value.Value.TheVariants as value
use Rattle.cheri_c_sem.specs.Expressions.{bare_type, constant, kind_tree, expr_tree, type_of}
use Rattle.cheri_c_sem.specs.Kinds.{Kind, Plain, Capability, nothing}
use Rattle.cheri_c_sem.specs.Modes.{Store}
use Rattle.cheri_c_sem.specs.Operations.{Operations}
use Rattle.cheri_c_sem.specs.Tree.{Ex, Number, Variable, Local, Fun}
use Rattle.cheri_c_sem.specs.Types.{is_simple, kind_of, offset_in}
use Rattle.mean_steps.specs.Machine.{Moment, with_value, finish_item}
use Rattle.mean_run.specs.declared.state.State.{State}
use Rattle.mean_work.specs.declared.work.Stop.{Stop}
use Rattle.mean_work.specs.declared.work.Stop.TheVariants as stop
use Rattle.mean_run.specs.Finished.{FinishedBy, Finishes}
use Rattle.mean_run.specs.Parts.{Does, Unless_wanting}
use Rattle.mean_run.specs.Sources.{IsNode}
use Rattle.mean_run.specs.Sizes.{IsSizedBy}
use Rattle.mean_run.specs.Steps.{IsPeeled, is_call, is_kept}
use Rattle.mean_run.specs.Views.{vars_at, moment_of, funs_of}
use Rattle.mean_run.proofs.Nodes.{no_node}

constant_idle : (ops : Operations Store) (funs : List Fun) (m : Moment Store) (n : ℕ) (k : Kind) →
    finish_item ops funs (constant n k) m ≡ Goes (with_value nothing m)
constant_idle ops funs m n (Plain k) = refl
constant_idle ops funs m n (Capability signed) = refl

variable_idle : (ops : Operations Store) (funs : List Fun) (m : Moment Store) (c : Bool) (pos : Pos) (x n : ℕ) →
    finish_item ops funs (if c then Variable pos x else Local pos n) m ≡ Goes (with_value nothing m)
variable_idle ops funs m true pos x n = refl
variable_idle ops funs m false pos x n = refl

module _ (ops : Operations Store) (p : Typed) (f k : ℕ) (held left : Store) (old new : State)
    (r : Result (Unit {0}) Stop) where
  abbrev vars : List VarDef
  vars = vars_at p f

  abbrev node : ℕ → Ex
  node = expr_tree p (vars_at p f)

  abbrev Finished : Ex → Type 0
  Finished e = Finishes ops p f held left old new r e

  idle : (s : Result (Unit {0}) Stop) (e : Ex) →
      finish_item ops (funs_of p) e (moment_of p old held) ≡ Goes (with_value nothing (moment_of p old held)) →
      Unless_wanting s ((new ≡ record old { values = value.Int 0 ∷ old.values }) × (left ≡ held)) →
      Does (finish_item ops (funs_of p) e (moment_of p old held)) (moment_of p new left) s
  idle (Ok u) e h q = rw (q.0, q.1) h
  idle (Err stop.NoMemory) e h q = tt
  idle (Err (stop.Ended x)) e h q = absurd q

  finishes_by : (of : ℕ) (pos : Pos) (kind : ExprKind) → node k ≡ kind_tree p vars node of pos kind →
      ((a : ℕ) → kind ≡ exprs.Convert a → is_kept (bare_type p vars a) (bare p.types of) ≡ true) →
      IsSizedBy p of kind → is_call kind ≡ false → FinishedBy ops p f held left old new r of pos kind →
      Finished (node k)
  finishes_by of pos (exprs.Load a) e peeled sized call b = rw e (b (node a))
  finishes_by of pos (exprs.Decay a) e peeled sized call b = rw e (b sized (node a))
  finishes_by of pos (exprs.Address a) e peeled sized call b = rw e (b sized (node a))
  finishes_by of pos (exprs.Deref a) e peeled sized call b = rw e (b (node a))
  finishes_by of pos (exprs.Member a n) e peeled sized call b =
      rw e (b (offset_in p.types (type_of (slice_get p.exprs a)) n) (node a))
  finishes_by of pos (exprs.Convert a) e peeled sized call b = rw e (b (node a) (peeled a refl))
  finishes_by of pos (exprs.Unary op a) e peeled sized call b = rw e (b (node a))
  finishes_by of pos (exprs.Compare op x y) e peeled sized call b = rw e (b (node x) (node y))
  finishes_by of pos (exprs.Assign x y) e peeled sized call b = rw e (b sized (node x) (node y))
  finishes_by of pos (exprs.Compound op x y computed) e peeled sized call b = rw e (b sized (node x) (node y))
  finishes_by of pos (exprs.Step a adds front) e peeled sized call b = rw e (b sized (node a) (Number 1))
  finishes_by of pos (exprs.Int op x y) e peeled sized call b = rw e b
  finishes_by of pos (exprs.Capability op x y right) e peeled sized call b = rw e b
  finishes_by of pos (exprs.Plus x y minus) e peeled sized call b = rw e (b sized)
  finishes_by of pos (exprs.Difference x y) e peeled sized call b = rw e (b sized)
  finishes_by of pos (exprs.Call g args) e peeled sized call b = absurd (let h : true ≡ false = call in cc)
  finishes_by of pos (exprs.Library n args) e peeled sized call b = absurd (let h : true ≡ false = call in cc)
  finishes_by of pos (exprs.Constant n) e peeled sized call b =
      rw e (idle r _ (constant_idle ops (funs_of p) (moment_of p old held) n (kind_of (bare p.types of))) b)
  finishes_by of pos (exprs.Literal n) e peeled sized call b =
      rw e (idle r (kind_tree p vars node of pos (exprs.Literal n)) refl b)
  finishes_by of pos (exprs.Var x) e peeled sized call b =
      rw e (idle r _ (variable_idle ops (funs_of p) (moment_of p old held) (is_simple (slice_get vars x)) pos x _) b)
  finishes_by of pos (exprs.Global g) e peeled sized call b =
      rw e (idle r (kind_tree p vars node of pos (exprs.Global g)) refl b)
  finishes_by of pos (exprs.Fun g) e peeled sized call b =
      rw e (idle r (kind_tree p vars node of pos (exprs.Fun g)) refl b)
  finishes_by of pos (exprs.And x y) e peeled sized call b =
      rw e (idle r (kind_tree p vars node of pos (exprs.And x y)) refl b)
  finishes_by of pos (exprs.Or x y) e peeled sized call b =
      rw e (idle r (kind_tree p vars node of pos (exprs.Or x y)) refl b)
  finishes_by of pos (exprs.Conditional c x y) e peeled sized call b =
      rw e (idle r (kind_tree p vars node of pos (exprs.Conditional c x y)) refl b)
  finishes_by of pos (exprs.Comma x y) e peeled sized call b =
      rw e (idle r (kind_tree p vars node of pos (exprs.Comma x y)) refl b)

  pub finishes : (e : Expr) → IsNode p k e → IsPeeled p vars e → IsSizedBy p e.of e.kind → is_call e.kind ≡ false →
      FinishedBy ops p f held left old new r e.of e.pos e.kind → Finished (node k)
  finishes e at peeled sized call b = finishes_by e.of e.pos e.kind (at vars) peeled sized call b

  -- an expression that is not there
  pub finishes_none : false ≡ ltb k (length p.exprs) →
      Unless_wanting r ((new ≡ record old { values = value.Int 0 ∷ old.values }) × (left ≡ held)) → Finished (node k)
  finishes_none lt q = rw (no_node p vars k lt) (idle r (Number 0) refl q)
