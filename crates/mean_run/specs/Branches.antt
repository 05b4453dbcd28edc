-- What comes behind a test.
use Rattle.std.specs.Prelude.{◌≡◌, ◌⊎◌, ℕ, Bool, true, false, ◌∷◌, map, Option, Some, None, Result}
use Rattle.std.specs.Prelude.{Ok, Err}
use Rattle.ck_base.specs.declared.positions.Pos.{Pos}
use Rattle.c_tree.specs.declared.typed.ExprKind.{ExprKind}
use Rattle.c_tree.specs.declared.typed.ExprKind.TheVariants as exprs
use Rattle.c_tree.specs.declared.typed.StmtKind.{StmtKind}
use Rattle.c_tree.specs.declared.typed.StmtKind.TheVariants as stmts
use Rattle.c_tree.specs.declared.typed.Typed.{Typed}
use Rattle.obj_mem.specs.declared.value.Value.TheVariants as value
use Rattle.obj_mem.specs.Values.{value_of}
use Rattle.cheri_c_sem.specs.Expressions.{kind_at}
use Rattle.cheri_c_sem.specs.Kinds.{Kind}
use Rattle.cheri_c_sem.specs.Meaning.{first_of}
use Rattle.cheri_c_sem.specs.Modes.{Store}
use Rattle.cheri_c_sem.specs.Operations.{Operations}
use Rattle.cheri_c_sem.specs.Programs.{stmt_tree}
use Rattle.cheri_c_sem.specs.Tree.{Ex}
use Rattle.mean_steps.specs.Machine.{behind, tested, turned_to, Behind, Test}
use Rattle.mean_steps.specs.Parts.{Now, Came, On, Over, test}
use Rattle.mean_run.specs.declared.branches.Next.{Next}
use Rattle.mean_run.specs.declared.branches.Next.TheVariants as next
use Rattle.mean_run.specs.declared.state.State.{State}
use Rattle.mean_work.specs.declared.work.Stop.{Stop}
use Rattle.mean_work.specs.declared.work.Stop.TheVariants as stop
use Rattle.mean_work.specs.declared.work.TheConstants.{NOWHERE}
use Rattle.mean_work.specs.declared.work.Work.{Work}
use Rattle.mean_work.specs.declared.work.Work.TheVariants as work
use Rattle.mean_run.specs.Parts.{Does, Unless_wanting}
use Rattle.mean_run.specs.Views.{now_of, moment_of, funs_of, item_of, loop_of, vars_at}

-- the other branch of an `if`, or nothing
abbrev pub other_branch : ℕ → Option ℕ → Work
other_branch f None = work.Nothing
other_branch f (Some b) = work.Statement f b

abbrev pub after : Next → State → State
after next.Skip s = s
after (next.One w) s = record s { work = w ∷ s.work }
after (next.Two a b) s = record s { work = a ∷ b ∷ s.work }
after (next.Truth true) s = record s { values = value.Int 1 ∷ s.values }
after (next.Truth false) s = record s { values = value.Int 0 ∷ s.values }

-- the value on top was taken, whose test came to this, and one thing was done or the other
abbrev pub Branched : Came Store Bool → Now Store → (first second : Next) → State → State → Result (Unit {0}) Stop →
    Type 0
Branched c n first second old new (Ok u) =
    ((c ≡ On true n) × (new ≡ after first (record old { values = behind old.values })))
    ⊎ ((c ≡ On false n) × (new ≡ after second (record old { values = behind old.values })))
Branched c n first second old new (Err (stop.Ended e)) = c ≡ Over e
Branched c n first second old new (Err stop.NoMemory) = Unit {0}

-- ---- the nodes behind whose first operand something is chosen

module _ (ops : Operations Store) (held : Store) (p : Typed) (f k : ℕ) (pos : Pos) (old new : State)
    (r : Result (Unit {0}) Stop) where
  -- by the truth of the value on top, of a kind
  abbrev pub IsBranch : Kind → (first second : Next) → Type 0
  IsBranch j first second =
      Branched (test ops pos j (first_of (map value_of old.values)) (now_of old held)) (now_of old held)
      first second old new r

  abbrev pub GaveNothing : Type 0
  GaveNothing = Unless_wanting r (new ≡ record old { values = value.Int 0 ∷ behind old.values })

  abbrev pub ChosenBy : ExprKind → Type 0
  ChosenBy (exprs.And a b) =
      IsBranch (kind_at p (vars_at p f) a) (next.Two (work.Value f b) (work.Decide f k)) (next.Truth false)
  ChosenBy (exprs.Or a b) =
      IsBranch (kind_at p (vars_at p f) a) (next.Truth true) (next.Two (work.Value f b) (work.Decide f k))
  ChosenBy (exprs.Conditional c a b) =
      IsBranch (kind_at p (vars_at p f) c) (next.One (work.Value f a)) (next.One (work.Value f b))
  ChosenBy e = GaveNothing

  abbrev pub DecidedBy : ExprKind → Type 0
  DecidedBy (exprs.And a b) = IsBranch (kind_at p (vars_at p f) b) (next.Truth true) (next.Truth false)
  DecidedBy (exprs.Or a b) = IsBranch (kind_at p (vars_at p f) b) (next.Truth true) (next.Truth false)
  DecidedBy e = GaveNothing

  abbrev pub PlaceChosenBy : ExprKind → Type 0
  PlaceChosenBy (exprs.Conditional c a b) =
      IsBranch (kind_at p (vars_at p f) c) (next.One (work.Place f a)) (next.One (work.Place f b))
  PlaceChosenBy e =
      Unless_wanting r (new ≡ record old { values = behind old.values; places = NOWHERE ∷ old.places })

  -- the statements behind whose condition or test something is chosen
  abbrev pub BranchedBy : StmtKind → Type 0
  BranchedBy (stmts.If c a b) =
      IsBranch (kind_at p (vars_at p f) c) (next.One (work.Statement f a)) (next.One (other_branch f b))
  BranchedBy s = Unless_wanting r (new ≡ record old { values = behind old.values })

  abbrev pub Untested : Work → Type 0
  Untested body = Unless_wanting r
      (new ≡ record old { values = behind old.values; work = body ∷ work.Again f k ∷ old.work })

  abbrev pub IsLoop : Kind → ℕ → Type 0
  IsLoop j a = IsBranch j (next.Two (work.Statement f a) (work.Again f k)) next.Skip

  -- a `for`, by its test
  abbrev pub ForTested : Option ℕ → ℕ → Type 0
  ForTested None a = Untested (work.Statement f a)
  ForTested (Some c) a = IsLoop (kind_at p (vars_at p f) c) a

  abbrev pub TestedBy : StmtKind → Type 0
  TestedBy (stmts.While c a) = IsLoop (kind_at p (vars_at p f) c) a
  TestedBy (stmts.For xs first test step a) = ForTested test a
  TestedBy (stmts.Do a c) =
      (e : Ex) → loop_of (stmt_tree p (vars_at p f) k)
      ≡ Behind pos (kind_at p (vars_at p f) c) e (stmt_tree p (vars_at p f) a) →
      Does (tested ops (funs_of p) (loop_of (stmt_tree p (vars_at p f) k)) (moment_of p old held))
      (moment_of p new held) r
  TestedBy s = Untested work.Nothing

-- ---- what comes behind the body of a loop

module _ (f k : ℕ) (old new : State) (r : Result (Unit {0}) Stop) where
  -- a turn was used, and the test comes again
  abbrev pub TestAgain : Type 0
  TestAgain =
      (p : Typed) (ops : Operations Store) (held : Store) → Does (turned_to ops (funs_of p)
      (Test (loop_of (stmt_tree p (vars_at p f) k)) ∷ map (item_of p) old.work) (moment_of p old held))
      (moment_of p new held) r

  abbrev pub ForAgain : Option ℕ → Type 0
  ForAgain None = TestAgain
  ForAgain (Some e) =
      Unless_wanting r (new ≡ record old { work = work.Value f e ∷ work.Drop ∷ work.Turn f k ∷ old.work })

  abbrev pub AgainBy : StmtKind → Type 0
  AgainBy (stmts.For xs first t step a) = ForAgain step
  AgainBy (stmts.Do a c) = Unless_wanting r (new ≡ record old { work = work.Test f k ∷ old.work })
  AgainBy s = TestAgain
