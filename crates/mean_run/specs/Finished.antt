-- What the operation of a node does, for the tree that the node is.
use Rattle.std.specs.Prelude.{◌≡◌, ℕ, ◌∷◌, not, true, false, List, Result, slice_get, if◌then◌else◌}
use Rattle.ck_base.specs.declared.positions.Pos.{Pos}
use Rattle.c_tree.specs.Layout.{bare}
use Rattle.c_tree.specs.declared.typed.ExprKind.{ExprKind}
use Rattle.c_tree.specs.declared.typed.ExprKind.TheVariants as exprs
use Rattle.c_tree.specs.declared.typed.Typed.{Typed}
use Rattle.c_tree.specs.declared.typed.VarDef.{VarDef}
use Rattle.obj_mem.specs.declared.value.Value.TheVariants as value
use Rattle.cheri_c_sem.specs.Expressions.{bare_type, kind_at, narrowing_of, conversion, assignment, sign_of}
use Rattle.cheri_c_sem.specs.Expressions.{compound_by, step_operation, step_kind, kind_tree, expr_tree}
use Rattle.cheri_c_sem.specs.Modes.{Store}
use Rattle.cheri_c_sem.specs.Operations.{Operations}
use Rattle.cheri_c_sem.specs.Tree as tree
use Rattle.cheri_c_sem.specs.Tree.{Ex}
use Rattle.cheri_c_sem.specs.Types.{is_record, kind_of}
use Rattle.mean_steps.specs.Machine.{finish_item}
use Rattle.mean_run.specs.Parts.{Does, Unless_wanting}
use Rattle.mean_run.specs.Sizes.{IsSizedBy}
use Rattle.mean_run.specs.Steps.{is_kept}
use Rattle.mean_run.specs.Views.{funs_of, moment_of, vars_at}
use Rattle.mean_run.specs.declared.state.State.{State}
use Rattle.mean_work.specs.declared.work.Stop.{Stop}

module _ (ops : Operations Store) (p : Typed) (f : ℕ) (held left : Store) (old new : State)
    (r : Result (Unit {0}) Stop) where
  -- the operation that a tree is was done
  abbrev pub Finishes : Ex → Type 0
  Finishes e = Does (finish_item ops (funs_of p) e (moment_of p old held)) (moment_of p new left) r

  abbrev here : List VarDef
  here = vars_at p f

  -- a node of a type, at a position and of a kind; the nodes that have no operation only give nothing
  abbrev pub FinishedBy : ℕ → Pos → ExprKind → Type 0
  FinishedBy of pos (exprs.Load a) =
      (x : Ex) → Finishes (if is_record (bare p.types of) then tree.Aggregate x
      else tree.Load (kind_of (bare p.types of)) x)
  FinishedBy of pos (exprs.Decay a) =
      IsSizedBy p of (exprs.Decay a) → (x : Ex) →
      Finishes (tree.Pointer_to pos (narrowing_of p here (slice_get p.exprs a)) x)
  FinishedBy of pos (exprs.Address a) =
      IsSizedBy p of (exprs.Address a) → (x : Ex) →
      Finishes (tree.Pointer_to pos (narrowing_of p here (slice_get p.exprs a)) x)
  FinishedBy of pos (exprs.Deref a) = (x : Ex) → Finishes (tree.Deref pos x)
  FinishedBy of pos (exprs.Member a m) = (offset : ℕ) (x : Ex) → Finishes (tree.Member pos offset x)
  FinishedBy of pos (exprs.Convert a) =
      (x : Ex) → is_kept (bare_type p here a) (bare p.types of) ≡ true →
      Finishes (conversion p here pos (bare_type p here a) (bare p.types of) x)
  FinishedBy of pos (exprs.Unary op a) = (x : Ex) → Finishes (sign_of pos (kind_at p here a) x op)
  FinishedBy of pos (exprs.Compare op a b) = (x y : Ex) → Finishes (tree.Compare pos op (kind_at p here a) x y)
  FinishedBy of pos (exprs.Assign a b) =
      IsSizedBy p of (exprs.Assign a b) → (x y : Ex) → Finishes (assignment p here pos of a x y)
  FinishedBy of pos (exprs.Compound op a b computed) =
      IsSizedBy p of (exprs.Compound op a b computed) → (x y : Ex) →
      Finishes (tree.Compound pos (compound_by p here op (bare p.types computed) a b (expr_tree p here b))
      (kind_at p here a) (kind_of (bare p.types computed)) false x y)
  FinishedBy of pos (exprs.Step a adds front) =
      IsSizedBy p of (exprs.Step a adds front) → (x y : Ex) →
      Finishes (tree.Compound pos (step_operation p here adds (bare_type p here a)) (kind_at p here a)
      (step_kind p here (kind_at p here a)) (not front) x y)
  FinishedBy of pos (exprs.Int op a b) = Finishes (kind_tree p here (expr_tree p here) of pos (exprs.Int op a b))
  FinishedBy of pos (exprs.Capability op a b right) =
      Finishes (kind_tree p here (expr_tree p here) of pos (exprs.Capability op a b right))
  FinishedBy of pos (exprs.Plus a b minus) =
      IsSizedBy p of (exprs.Plus a b minus) →
      Finishes (kind_tree p here (expr_tree p here) of pos (exprs.Plus a b minus))
  FinishedBy of pos (exprs.Difference a b) =
      IsSizedBy p of (exprs.Difference a b) →
      Finishes (kind_tree p here (expr_tree p here) of pos (exprs.Difference a b))
  FinishedBy of pos (exprs.Call g args) = Unit {0}
  FinishedBy of pos (exprs.Library n args) = Unit {0}
  FinishedBy of pos e =
      Unless_wanting r ((new ≡ record old { values = value.Int 0 ∷ old.values }) × (left ≡ held))
