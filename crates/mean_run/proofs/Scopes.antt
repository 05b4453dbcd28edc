-- Blocks are entered and left as the machine does.
use Rattle.std.proofs.Common.{◌≡◌, ℕ, ◌+◌, ◌<◌, ◌≤◌, Bool, true, false, List, [], None, length, drop, get_or}
use Rattle.std.proofs.Common.{refl, sym, ap, ◌∙◌}
use Rattle.std.specs.Prelude.{map, not, slice_get, slice_set, if◌then◌else◌}
use Rattle.std.proofs.lemmas.List.{at_drop_all, at_drop_more}
use Rattle.c_tree.specs.Layout.{bare}
use Rattle.c_tree.specs.declared.typed.StmtKind.{StmtKind}
use Rattle.c_tree.specs.declared.typed.StmtKind.TheVariants as stmts
use Rattle.c_tree.specs.declared.typed.Typed.{Typed}
use Rattle.ck_base.specs.declared.positions.Pos.{Pos}
use Rattle.cheri_c_sem.specs.Expressions.{expr_tree, type_of}
use Rattle.cheri_c_sem.specs.Modes.{Store}
use Rattle.cheri_c_sem.specs.Operations.{Operations}
use Rattle.cheri_c_sem.specs.Programs.{declared, stmt_tree, stmt_kind_tree}
use Rattle.cheri_c_sem.specs.Tree.{Declared, Simple, Objects, St}
use Rattle.cheri_c_sem.specs.Types.{is_record, is_simple}
use Rattle.mean_steps.specs.Machine.{Moment}
use Rattle.mean_steps.specs.Parts.{Now, On, enter, enter_one, leave, leave_one, next_of}
use Rattle.mean_run.specs.declared.state.State.{State}
use Rattle.mean_run.specs.Begun.{declared_in}
use Rattle.mean_run.specs.Parts.{Becomes, DidAll}
use Rattle.mean_run.specs.Views.{declared_of, moment_of, now_of, vars_at}
use Rattle.mean_run.proofs.Nodes.{of_either}

-- ---- one variable

module _ (ops : Operations Store) (p : Typed) (held left : Store) (old new : State) where
  pub object_enters : (b : Bool) (x n object : ℕ) → not b ≡ true → object ≡ old.call.first + n →
      left ≡ ops.zero held object → DidAll (enter_one ops (if b then Simple x else Objects n)) p old old held left
  object_enters true x n object h o z = absurd (let e : false ≡ true = h in cc)
  object_enters false x n object h o z = (rw (z, o) refl, refl)

  pub variable_enters : (b : Bool) (x n : ℕ) → not b ≡ false →
      Becomes old new (λ p m. record m { now = record m.now { vars = slice_set m.now.vars x None } }) →
      DidAll (enter_one ops (if b then Simple x else Objects n)) p old new held held
  variable_enters true x n h s =
      let set = s p held in
      let now = ap (λ (m : Moment Store). m.now) set in (
        ap (λ n. On tt n) (sym now),
        set ∙ ap (λ n. record (moment_of p old held) { now = n }) (sym now),
      )
  variable_enters false x n h s = absurd (let e : true ≡ false = h in cc)

  pub object_leaves : (b : Bool) (x n object : ℕ) → not b ≡ true → object ≡ old.call.first + n →
      left ≡ ops.leave held object →
      leave_one ops (if b then Simple x else Objects n) (now_of old held) ≡ On tt (now_of old left)
  object_leaves true x n object h o z = absurd (let e : false ≡ true = h in cc)
  object_leaves false x n object h o z = rw (z, o) refl

  pub variable_leaves : (b : Bool) (x n : ℕ) → not b ≡ false →
      leave_one ops (if b then Simple x else Objects n) (now_of old held) ≡ On tt (now_of old held)
  variable_leaves true x n h = refl
  variable_leaves false x n h = absurd (let e : true ≡ false = h in cc)

-- ---- all of a block

module _ (ops : Operations Store) (d : ℕ → Declared) (xs : List ℕ) (i : ℕ) where
  pub enter_more : (n m s : Now Store) → i < length xs → enter_one ops (d (get_or xs i 0)) n ≡ On tt m →
      enter ops (map d xs) s ≡ enter ops (map d (drop i xs)) n →
      enter ops (map d xs) s ≡ enter ops (map d (drop (i + 1) xs)) m
  enter_more n m s lt e h =
      h ∙ (at_drop_more (λ ys. enter ops (map d ys) n) xs i 0 lt
      ∙ ap (λ c. next_of c (λ _. enter ops (map d (drop (i + 1) xs)))) e)

  pub enter_all : (n s : Now Store) → length xs ≤ i → enter ops (map d xs) s ≡ enter ops (map d (drop i xs)) n →
      enter ops (map d xs) s ≡ On tt n
  enter_all n s le h = h ∙ at_drop_all (λ ys. enter ops (map d ys) n) xs i le

  pub leave_more : (n m s : Now Store) → i < length xs → leave_one ops (d (get_or xs i 0)) n ≡ On tt m →
      leave ops (map d xs) s ≡ leave ops (map d (drop i xs)) n →
      leave ops (map d xs) s ≡ leave ops (map d (drop (i + 1) xs)) m
  leave_more n m s lt e h =
      h ∙ (at_drop_more (λ ys. leave ops (map d ys) n) xs i 0 lt
      ∙ ap (λ c. next_of c (λ _. leave ops (map d (drop (i + 1) xs)))) e)

  pub leave_all : (n s : Now Store) → length xs ≤ i → leave ops (map d xs) s ≡ leave ops (map d (drop i xs)) n →
      leave ops (map d xs) s ≡ On tt n
  leave_all n s le h = h ∙ at_drop_all (λ ys. leave ops (map d ys) n) xs i le

-- ---- the variables of a statement

module _ (p : Typed) (f k : ℕ) where
  abbrev here : ℕ → St
  here = stmt_tree p (vars_at p f)

  pub declared_are : (pos : Pos) (kind : StmtKind) →
      here k ≡ stmt_kind_tree p (vars_at p f) (expr_tree p (vars_at p f)) here pos kind →
      declared_of (here k) ≡ map (declared p (vars_at p f)) (declared_in kind)
  declared_are pos (stmts.Expr e) node = rw node refl
  declared_are pos (stmts.Init x offset e) node =
      rw node (of_either declared_of [] (is_simple (slice_get (vars_at p f) x))
      (is_record (bare p.types (type_of (slice_get p.exprs e)))) _ _ _ refl refl refl)
  declared_are pos (stmts.Block xs ks) node = rw node refl
  declared_are pos (stmts.If c x y) node = rw node refl
  declared_are pos (stmts.While c a) node = rw node refl
  declared_are pos (stmts.Do a c) node = rw node refl
  declared_are pos (stmts.For xs first t step a) node = rw node refl
  declared_are pos (stmts.Switch q xs labels ks) node = rw node refl
  declared_are pos stmts.Break node = rw node refl
  declared_are pos stmts.Continue node = rw node refl
  declared_are pos (stmts.Return a) node = rw node refl
  declared_are pos stmts.Empty node = rw node refl
