-- What comes behind the condition of an `if` or the test of a loop is what the machine goes on with.
use Rattle.std.proofs.Common.{◌≡◌, ℕ, Bool, List, ◌∷◌, Option, Some, None, Result, Ok, Err, refl, sym, ap}
use Rattle.std.proofs.Common.{subst}
use Rattle.std.proofs.Common.{◌∙◌}
use Rattle.std.specs.Prelude.{map, slice_get, if◌then◌else◌}
use Rattle.ck_base.specs.Runs.{Act, Goes, Ends}
use Rattle.ck_base.specs.declared.positions.Pos.{Pos}
use Rattle.c_tree.specs.Layout.{bare}
use Rattle.c_tree.specs.declared.typed.Stmt.{Stmt}
use Rattle.c_tree.specs.declared.typed.StmtKind.{StmtKind}
use Rattle.c_tree.specs.declared.typed.StmtKind.TheVariants as stmts
use Rattle.c_tree.specs.declared.typed.Typed.{Typed}
use Rattle.obj_mem.specs.declared.ending.Ending.{Ending}
use Rattle.obj_mem.specs.Values.{value_of}
use Rattle.cheri_c_sem.specs.Expressions.{expr_tree, kind_at, type_of}
use Rattle.cheri_c_sem.specs.Kinds.{Kind}
use Rattle.cheri_c_sem.specs.Modes.{Store}
use Rattle.cheri_c_sem.specs.Operations.{Operations}
use Rattle.cheri_c_sem.specs.Programs.{stmt_tree, stmt_kind_tree, statement_or_empty, expression_of, test_in}
use Rattle.cheri_c_sem.specs.Meaning.{first_of}
use Rattle.cheri_c_sem.specs.Tree.{Ex, St, Empty}
use Rattle.cheri_c_sem.specs.Types.{is_record, is_simple}
use Rattle.mean_steps.specs.Machine.{Loop, Before, Behind, Item, Execute, Again, Moment, behind, branch, less_value}
use Rattle.mean_steps.specs.Machine.{one}
use Rattle.mean_steps.specs.Machine.{two, again, tested, turned_to}
use Rattle.mean_steps.specs.Parts.{Came, On, Over, test, turn}
use Rattle.mean_run.specs.declared.branches.Next.TheVariants as next
use Rattle.mean_run.specs.declared.state.State.{State}
use Rattle.mean_work.specs.declared.work.Stop.{Stop}
use Rattle.mean_work.specs.declared.work.Stop.TheVariants as stop
use Rattle.mean_work.specs.declared.work.Work.{Work}
use Rattle.mean_work.specs.declared.work.Work.TheVariants as work
use Rattle.mean_run.specs.Branches.{AgainBy, BranchedBy, ForAgain, ForTested, IsLoop, TestAgain, TestedBy, other_branch}
use Rattle.mean_run.specs.Parts.{Did, Does, Unless_wanting}
use Rattle.mean_run.specs.Sources.{IsStatement}
use Rattle.mean_run.specs.Views.{item_of, loop_of, vars_at, moment_of, now_of, funs_of}
use Rattle.mean_run.proofs.Chooses.{branched}
use Rattle.mean_run.proofs.Doing.{on, over}
use Rattle.mean_run.proofs.Nodes.{no_statement, of_either}
use Rattle.mean_run.proofs.Tops.{map_behind}

map_other : (p : Typed) (f : ℕ) (b : Option ℕ) →
    item_of p (other_branch f b) ≡ Execute (statement_or_empty (stmt_tree p (vars_at p f)) b)
map_other p f None = refl
map_other p f (Some b) = refl

module _ (ops : Operations Store) (held : Store) (p : Typed) (f k : ℕ) (old new : State)
    (r : Result (Unit {0}) Stop) where
  abbrev here : ℕ → St
  here = stmt_tree p (vars_at p f)

  abbrev m : Moment Store
  m = moment_of p old held

  abbrev Statement : Pos → StmtKind → Type 0
  Statement pos kind = here k ≡ stmt_kind_tree p (vars_at p f) (expr_tree p (vars_at p f)) here pos kind

  abbrev Branches : St → Type 0
  Branches a = Does (branch ops (funs_of p) a m) (moment_of p new held) r

  abbrev Tests : Type 0
  Tests = Does (tested ops (funs_of p) (loop_of (here k)) m) (moment_of p new held) r

  lost : (s : Result (Unit {0}) Stop) (a : Act (Moment Store) Ending) → a ≡ Goes (less_value m) →
      Unless_wanting s (new ≡ record old { values = behind old.values }) → Does a (moment_of p new held) s
  lost (Ok u) a e q = e ∙ rw (q, map_behind value_of old.values) refl
  lost (Err stop.NoMemory) a e q = tt
  lost (Err (stop.Ended x)) a e q = absurd q

  -- the truth of the value on top
  abbrev by : Pos → Kind → Came Store Bool
  by pos j = test ops pos j (first_of (map value_of old.values)) (now_of old held)

  -- a loop with no test
  untested : (s : Result (Unit {0}) Stop) (w : Work) (a : Act (Moment Store) Ending) →
      a ≡ Goes (two (item_of p w) (Again (loop_of (here k))) (less_value m)) →
      Unless_wanting s (new ≡ record old { values = behind old.values; work = w ∷ work.Again f k ∷ old.work }) →
      Does a (moment_of p new held) s
  untested (Ok u) w a e q = e ∙ rw (q, map_behind value_of old.values) refl
  untested (Err stop.NoMemory) w a e q = tt
  untested (Err (stop.Ended x)) w a e q = absurd q

  branches_by : (pos : Pos) (kind : StmtKind) → Statement pos kind →
      BranchedBy ops held p f k pos old new r kind → Branches (here k)
  branches_by pos (stmts.If c x y) e b =
      rw e (branched ops p f k held old new r
      (λ d t. Goes (if d then one (Execute (here x)) t else one (Execute (statement_or_empty here y)) t))
      (by pos (kind_at p (vars_at p f) c)) (next.One (work.Statement f x)) (next.One (other_branch f y)) r b
      (rw (map_behind value_of old.values) refl) (rw (map_other p f y, map_behind value_of old.values) refl))
  branches_by pos (stmts.Init x offset v) e b =
      rw e (lost r _ (of_either (λ a. branch ops (funs_of p) a m) _ (is_simple (slice_get (vars_at p f) x))
      (is_record (bare p.types (type_of (slice_get p.exprs v)))) _ _ _ refl refl refl) b)
  branches_by pos (stmts.Expr v) e b = rw e (lost r _ refl b)
  branches_by pos (stmts.Block xs ks) e b = rw e (lost r _ refl b)
  branches_by pos (stmts.While c a) e b = rw e (lost r _ refl b)
  branches_by pos (stmts.Do a c) e b = rw e (lost r _ refl b)
  branches_by pos (stmts.For xs first t step a) e b = rw e (lost r _ refl b)
  branches_by pos (stmts.Switch q xs labels ks) e b = rw e (lost r _ refl b)
  branches_by pos stmts.Break e b = rw e (lost r _ refl b)
  branches_by pos stmts.Continue e b = rw e (lost r _ refl b)
  branches_by pos (stmts.Return a) e b = rw e (lost r _ refl b)
  branches_by pos stmts.Empty e b = rw e (lost r _ refl b)

  pub branches : (a : Stmt) → IsStatement p k a → BranchedBy ops held p f k a.pos old new r a.kind → Branches (here k)
  branches a at b = branches_by a.pos a.kind (at (vars_at p f)) b

  -- a statement that is not there
  pub branches_none : slice_get p.stmts k ≡ None →
      Unless_wanting r (new ≡ record old { values = behind old.values }) → Branches (here k)
  branches_none e q = rw (no_statement p (vars_at p f) k e) (lost r _ refl q)

  -- ---- loops

  abbrev round : Loop → St → Bool → Moment Store → Act (Moment Store) Ending
  round l a c t = Goes (if c then two (Execute a) (Again l) t else t)

  loop_first : (pos : Pos) (j : Kind) (x : Ex) (step : Option Ex) (a : ℕ) →
      loop_of (here k) ≡ Before (Some (pos, j, x)) step (here a) → IsLoop ops held p f k pos old new r j a → Tests
  loop_first pos j x step a e b =
      rw e (branched ops p f k held old new r (round (Before (Some (pos, j, x)) step (here a)) (here a))
      (by pos j) (next.Two (work.Statement f a) (work.Again f k)) next.Skip r b
      (rw (e, map_behind value_of old.values) refl) (rw (map_behind value_of old.values) refl))

  tests_for : (pos : Pos) (step : Option Ex) (t : Option ℕ) (a : ℕ) →
      loop_of (here k) ≡ Before (test_in p (vars_at p f) pos (expr_tree p (vars_at p f)) t) step (here a) →
      ForTested ops held p f k pos old new r t a → Tests
  tests_for pos step None a e b = untested r (work.Statement f a) _ (rw e refl) b
  tests_for pos step (Some c) a e b =
      loop_first pos (kind_at p (vars_at p f) c) (expr_tree p (vars_at p f) c) step a e b

  tests_by : (pos : Pos) (kind : StmtKind) → Statement pos kind →
      TestedBy ops held p f k pos old new r kind → Tests
  tests_by pos (stmts.While c a) e b =
      loop_first pos (kind_at p (vars_at p f) c) (expr_tree p (vars_at p f) c) None a (rw e refl) b
  tests_by pos (stmts.For xs first t step a) e b =
      tests_for pos (expression_of (expr_tree p (vars_at p f)) step) t a (rw e refl) b
  tests_by pos (stmts.Do a c) e b = b (expr_tree p (vars_at p f) c) (rw e refl)
  tests_by pos (stmts.Init x offset v) e b =
      let l : loop_of (here k) ≡ Before None None Empty =
      rw e (of_either loop_of _ (is_simple (slice_get (vars_at p f) x))
      (is_record (bare p.types (type_of (slice_get p.exprs v)))) _ _ _ refl refl refl) in
      untested r work.Nothing _ (rw l refl) b
  tests_by pos (stmts.Expr v) e b = untested r work.Nothing _ (rw e refl) b
  tests_by pos (stmts.Block xs ks) e b = untested r work.Nothing _ (rw e refl) b
  tests_by pos (stmts.If c x y) e b = untested r work.Nothing _ (rw e refl) b
  tests_by pos (stmts.Switch q xs labels ks) e b = untested r work.Nothing _ (rw e refl) b
  tests_by pos stmts.Break e b = untested r work.Nothing _ (rw e refl) b
  tests_by pos stmts.Continue e b = untested r work.Nothing _ (rw e refl) b
  tests_by pos (stmts.Return a) e b = untested r work.Nothing _ (rw e refl) b
  tests_by pos stmts.Empty e b = untested r work.Nothing _ (rw e refl) b

  pub tests : (a : Stmt) → IsStatement p k a → TestedBy ops held p f k a.pos old new r a.kind → Tests
  tests a at b = tests_by a.pos a.kind (at (vars_at p f)) b

  pub tests_none : slice_get p.stmts k ≡ None →
      Unless_wanting r (new ≡ record old {
        values = behind old.values;
        work = work.Nothing ∷ work.Again f k ∷ old.work;
      }) → Tests
  tests_none e q = untested r work.Nothing _ (rw (no_statement p (vars_at p f) k e) refl) q

-- the test of a `do`
module _ (ops : Operations Store) (held : Store) (p : Typed) (f k a : ℕ) (old s new : State) (pos : Pos) (j : Kind)
    (x : Ex) where
  abbrev loop : Loop
  loop = loop_of (stmt_tree p (vars_at p f) k)

  abbrev again_or_not : Loop → Bool → Moment Store → Act (Moment Store) Ending
  again_or_not l c t = if c then turned_to ops (funs_of p) (Execute (stmt_tree p (vars_at p f) a) ∷ Again l ∷ t.work) t
      else Goes t

  abbrev truth : Came Store Bool
  truth = test ops pos j (first_of (map value_of old.values)) (now_of old held)

  do_test : (b : Bool) → loop ≡ Behind pos j x (stmt_tree p (vars_at p f) a) →
      truth ≡ On b (now_of old held) → s ≡ record old { values = behind old.values } →
      again_or_not loop b (moment_of p s held) ≡ tested ops (funs_of p) loop (moment_of p old held)
  do_test b l h q = rw (q, l, map_behind value_of old.values)
      (sym (on (less_value (moment_of p old held)) (again_or_not (Behind pos j x (stmt_tree p (vars_at p f) a))) truth b
      (now_of old held) h))

  pub goes_round_or_on : (b : Bool) (r : Result (Unit {0}) Stop) →
      loop ≡ Behind pos j x (stmt_tree p (vars_at p f) a) →
      truth ≡ On b (now_of old held) → s ≡ record old { values = behind old.values } →
      Does (again_or_not loop b (moment_of p s held)) (moment_of p new held) r →
      Does (tested ops (funs_of p) loop (moment_of p old held)) (moment_of p new held) r
  goes_round_or_on b r l h q d =
      let P : Act (Moment Store) Ending → Type 0 = λ c. Does c (moment_of p new held) r in subst P (do_test b l h q) d

  pub do_test_ends : (e : Ending) → loop ≡ Behind pos j x (stmt_tree p (vars_at p f) a) → truth ≡ Over e →
      tested ops (funs_of p) loop (moment_of p old held) ≡ Ends e
  do_test_ends e l h = rw l
      (over (less_value (moment_of p old held)) (again_or_not (Behind pos j x (stmt_tree p (vars_at p f) a))) truth e h)

-- a turn is used, and then work is more
module _ (ops : Operations Store) (p : Typed) (held : Store) (old t new : State) (more : List Work → List Work)
    (items : List Item → List Item) (same : (ws : List Work) → map (item_of p) (more ws) ≡ items (map (item_of p) ws))
  where
    abbrev come : List Item
    come = items (map (item_of p) old.work)

    pub turn_ends : (s : Stop) → Did turn (λ u. u) p old t held held (Err s) →
        Does (turned_to ops (funs_of p) come (moment_of p old held)) (moment_of p t held) (Err s)
    turn_ends stop.NoMemory d = tt
    turn_ends (stop.Ended e) d = over (moment_of p old held) (λ _ m. Goes (record m { work = come })) _ e d

    pub turn_used : (u : Unit {0}) (r : Result (Unit {0}) Stop) → Did turn (λ u. u) p old t held held (Ok u) →
        Unless_wanting r (new ≡ record t { work = more t.work }) →
        Does (turned_to ops (funs_of p) come (moment_of p old held)) (moment_of p new held) r
    turn_used u (Err stop.NoMemory) d q = tt
    turn_used u (Err (stop.Ended e)) d q = absurd q
    turn_used u (Ok v) d q =
        let with_more : Moment Store → Act (Moment Store) Ending = λ m. Goes (record m { work = items m.work }) in
        let n : with_more (moment_of p t held) ≡ Goes (moment_of p new held) = rw (q, same t.work) refl in
        on (moment_of p old held) (λ _ m. Goes (record m { work = come })) _ tt (now_of t held) d.0
        ∙ (ap with_more (sym d.1) ∙ n)

-- ---- what comes behind the body of a loop

module _ (ops : Operations Store) (held : Store) (p : Typed) (f k : ℕ) (old new : State)
    (r : Result (Unit {0}) Stop) where
  abbrev there : ℕ → St
  there = stmt_tree p (vars_at p f)

  abbrev before : Moment Store
  before = moment_of p old held

  abbrev Agains : Type 0
  Agains = Does (again ops (funs_of p) (loop_of (there k)) before) (moment_of p new held) r

  turned_again : (t : Option (Pos × Kind × Ex)) (a : St) → loop_of (there k) ≡ Before t None a →
      TestAgain f k old new r → Agains
  turned_again t a l b = let d = b p ops held in rw l (rw l at d)

  stepped : (s : Result (Unit {0}) Stop) (t : Option (Pos × Kind × Ex)) (e : ℕ) (a : St) →
      loop_of (there k) ≡ Before t (Some (expr_tree p (vars_at p f) e)) a →
      Unless_wanting s (new ≡ record old { work = work.Value f e ∷ work.Drop ∷ work.Turn f k ∷ old.work }) →
      Does (again ops (funs_of p) (loop_of (there k)) before) (moment_of p new held) s
  stepped (Ok u) t e a l q = rw (q, l) refl
  stepped (Err stop.NoMemory) t e a l q = tt
  stepped (Err (stop.Ended x)) t e a l q = absurd q

  to_test : (s : Result (Unit {0}) Stop) (pos : Pos) (j : Kind) (x : Ex) (a : St) →
      loop_of (there k) ≡ Behind pos j x a → Unless_wanting s (new ≡ record old { work = work.Test f k ∷ old.work }) →
      Does (again ops (funs_of p) (loop_of (there k)) before) (moment_of p new held) s
  to_test (Ok u) pos j x a l q = rw (q, l) refl
  to_test (Err stop.NoMemory) pos j x a l q = tt
  to_test (Err (stop.Ended e)) pos j x a l q = absurd q

  agains_for : (t : Option (Pos × Kind × Ex)) (step : Option ℕ) (a : St) →
      loop_of (there k) ≡ Before t (expression_of (expr_tree p (vars_at p f)) step) a →
      ForAgain f k old new r step → Agains
  agains_for t None a l b = turned_again t a l b
  agains_for t (Some e) a l b = stepped r t e a l b

  agains_by : (pos : Pos) (kind : StmtKind) →
      there k ≡ stmt_kind_tree p (vars_at p f) (expr_tree p (vars_at p f)) there pos kind →
      AgainBy f k old new r kind → Agains
  agains_by pos (stmts.While c a) e b =
      turned_again (Some (pos, kind_at p (vars_at p f) c, expr_tree p (vars_at p f) c)) (there a) (rw e refl) b
  agains_by pos (stmts.For xs first t step a) e b =
      agains_for (test_in p (vars_at p f) pos (expr_tree p (vars_at p f)) t) step (there a) (rw e refl) b
  agains_by pos (stmts.Do a c) e b =
      to_test r pos (kind_at p (vars_at p f) c) (expr_tree p (vars_at p f) c) (there a) (rw e refl) b
  agains_by pos (stmts.Init x offset v) e b =
      turned_again None Empty (rw e (of_either loop_of _ (is_simple (slice_get (vars_at p f) x))
      (is_record (bare p.types (type_of (slice_get p.exprs v)))) _ _ _ refl refl refl)) b
  agains_by pos (stmts.Expr v) e b = turned_again None Empty (rw e refl) b
  agains_by pos (stmts.Block xs ks) e b = turned_again None Empty (rw e refl) b
  agains_by pos (stmts.If c x y) e b = turned_again None Empty (rw e refl) b
  agains_by pos (stmts.Switch q xs labels ks) e b = turned_again None Empty (rw e refl) b
  agains_by pos stmts.Break e b = turned_again None Empty (rw e refl) b
  agains_by pos stmts.Continue e b = turned_again None Empty (rw e refl) b
  agains_by pos (stmts.Return a) e b = turned_again None Empty (rw e refl) b
  agains_by pos stmts.Empty e b = turned_again None Empty (rw e refl) b

  pub agains : (a : Stmt) → IsStatement p k a → AgainBy f k old new r a.kind → Agains
  agains a at b = agains_by a.pos a.kind (at (vars_at p f)) b

  pub agains_none : slice_get p.stmts k ≡ None → TestAgain f k old new r → Agains
  agains_none e b = turned_again None Empty (rw (no_statement p (vars_at p f) k e) refl) b
