-- What statements do that enter blocks, jump, initialise or switch.
use Rattle.std.specs.Prelude.{◌≡◌, ℕ, Result, slice_get}
use Rattle.ck_base.specs.declared.positions.Pos.{Pos}
use Rattle.c_tree.specs.declared.typed.StmtKind.{StmtKind}
use Rattle.c_tree.specs.declared.typed.StmtKind.TheVariants as stmts
use Rattle.c_tree.specs.declared.typed.Typed.{Typed}
use Rattle.cheri_c_sem.specs.Expressions.{expr_tree, type_of}
use Rattle.cheri_c_sem.specs.Modes.{Store}
use Rattle.cheri_c_sem.specs.Operations.{Operations}
use Rattle.cheri_c_sem.specs.Programs.{initialisation, stmt_tree, stmt_kind_tree}
use Rattle.cheri_c_sem.specs.Tree.{Ex}
use Rattle.mean_steps.specs.Machine.{behind, choose_label, execute, initialize}
use Rattle.mean_run.specs.declared.state.State.{State}
use Rattle.mean_work.specs.declared.work.Stop.{Stop}
use Rattle.mean_run.specs.Begun.{Executed}
use Rattle.mean_run.specs.Parts.{Does, Unless_wanting}
use Rattle.mean_run.specs.Sizes.{IsSmall}
use Rattle.mean_run.specs.Views.{funs_of, moment_of, vars_at}

module _ (ops : Operations Store) (p : Typed) (f : ℕ) where
  -- statement k is of this kind
  abbrev pub Here : (k : ℕ) → Pos → StmtKind → Type 0
  Here k pos kind = stmt_tree p (vars_at p f) k
      ≡ stmt_kind_tree p (vars_at p f) (expr_tree p (vars_at p f)) (stmt_tree p (vars_at p f)) pos kind

  module _ (k : ℕ) (pos : Pos) (held left : Store) (old new : State) (r : Result (Unit {0}) Stop) where
    abbrev pub Executes : Type 0
    Executes = Does (execute ops (funs_of p) (stmt_tree p (vars_at p f) k) (moment_of p old held))
        (moment_of p new left) r

    abbrev pub DoneBy : StmtKind → Type 0
    DoneBy (stmts.Block xs ks) = Here k pos (stmts.Block xs ks) → Executes
    DoneBy (stmts.For xs first test step a) = Here k pos (stmts.For xs first test step a) → Executes
    DoneBy stmts.Break = Here k pos stmts.Break → Executes
    DoneBy stmts.Continue = Here k pos stmts.Continue → Executes
    DoneBy (stmts.Return e) = Here k pos (stmts.Return e) → Executes
    DoneBy s = Unless_wanting r (Executed p f k s old new × (left ≡ held))

    abbrev pub SwitchedBy : StmtKind → Type 0
    SwitchedBy (stmts.Switch on xs labels ks) =
        Here k pos (stmts.Switch on xs labels ks) →
        Does (choose_label ops (funs_of p) (stmt_tree p (vars_at p f) k) (moment_of p old held))
        (moment_of p new left) r
    SwitchedBy s = Unless_wanting r ((new ≡ record old { values = behind old.values }) × (left ≡ held))

  module _ (pos : Pos) (held left : Store) (old new : State) (r : Result (Unit {0}) Stop) where
    abbrev pub InitializedBy : StmtKind → Type 0
    InitializedBy (stmts.Init x offset e) =
        IsSmall p (type_of (slice_get p.exprs e)) → (v : Ex) →
        Does (initialize ops (funs_of p) (initialisation p (vars_at p f) pos x offset
        (type_of (slice_get p.exprs e)) v) (moment_of p old held)) (moment_of p new left) r
    InitializedBy s = Unless_wanting r ((new ≡ old) × (left ≡ held))
