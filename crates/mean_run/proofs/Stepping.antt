-- Each step of a run is an act of the machine.
use Rattle.std.proofs.Common.{◌≡◌, ℕ, suc, List, [], ◌∷◌, length, refl, sym, ap, ◌∙◌}
use Rattle.std.specs.Prelude.{map}
use Rattle.c_tree.specs.declared.typed.Expr.{Expr}
use Rattle.c_tree.specs.declared.typed.ExprKind.TheVariants as exprs
use Rattle.c_tree.specs.declared.typed.Typed.{Typed}
use Rattle.cheri_c_sem.specs.Expressions.{arguments, bare_type, expr_tree, fits}
use Rattle.cheri_c_sem.specs.Modes.{Store}
use Rattle.cheri_c_sem.specs.Operations.{Operations}
use Rattle.cheri_c_sem.specs.Tree.{Ex}
use Rattle.cheri_c_sem.specs.Types.{pointee_of, service_of}
use Rattle.mean_steps.specs.Machine.{Moment, act, act_of, act_on, beyond, call, count_of, finish_item, serve, turned}
use Rattle.mean_run.specs.declared.state.State.{State}
use Rattle.mean_work.specs.declared.work.Work.{Work}
use Rattle.mean_run.specs.Sources.{IsNode}
use Rattle.mean_run.specs.Views.{funs_of, item_of, moment_of, vars_at}

counted : (t : ℕ → Ex) (ks : List ℕ) → count_of (arguments t ks) ≡ length ks
counted t [] = refl
counted t (k ∷ ks) = ap suc (counted t ks)

module _ (ops : Operations Store) (p : Typed) (f k : ℕ) (e : Expr) (node : IsNode p k e) (m : Moment Store) where
  pub call_is : (h : ℕ) (args : List ℕ) → e.kind ≡ exprs.Call h args →
      call ops (funs_of p) e.pos (fits p (vars_at p f) (pointee_of (bare_type p (vars_at p f) h))) (length args) m
      ≡ finish_item ops (funs_of p) (expr_tree p (vars_at p f) k) m
  call_is h args is = rw (node (vars_at p f), is, counted (expr_tree p (vars_at p f)) args) refl

  pub service_is : (n : ℕ) (args : List ℕ) → e.kind ≡ exprs.Library n args →
      serve ops (funs_of p) e.pos (service_of n) (turned (length args) m.values [])
      (record m { values = beyond (length args) m.values })
      ≡ finish_item ops (funs_of p) (expr_tree p (vars_at p f) k) m
  service_is n args is = rw (node (vars_at p f), is, counted (expr_tree p (vars_at p f)) args) refl

module _ (ops : Operations Store) (p : Typed) (old s : State) (held : Store) where
  pub act_is : (w : Work) → old.work ≡ w ∷ s.work → s ≡ record old { work = s.work } →
      act_on ops (funs_of p) (item_of p w) (moment_of p s held) ≡ act ops (funs_of p) (moment_of p old held)
  unfolding act
  act_is w popped is =
      let m : moment_of p s held ≡ record (moment_of p old held) { work = map (item_of p) s.work } = rw is refl in
      ap (act_on ops (funs_of p) (item_of p w)) m
      ∙ sym (ap (λ ws. act_of ops (funs_of p) (map (item_of p) ws) (moment_of p old held)) popped)

  pub over_is : old.work ≡ [] → s ≡ record old { work = [] } →
      act_of ops (funs_of p) [] (moment_of p s held) ≡ act ops (funs_of p) (moment_of p old held)
  unfolding act
  over_is none is =
      ap (λ (s : State). act_of ops (funs_of p) [] (moment_of p s held)) is
      ∙ sym (ap (λ ws. act_of ops (funs_of p) (map (item_of p) ws) (moment_of p old held)) none)
