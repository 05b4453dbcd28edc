-- Each object of a function is a parameter, or a block in its body declares it; so it becomes zero in the function's
-- code.
use Rattle.std.proofs.Common.{◌≡◌, ℕ, zero, suc, ◌+◌, ◌<◌, ◌≤◌, Bool, true, false, List, [], ◌∷◌, ◌++◌, length, map}
use Rattle.std.proofs.Common.{get_or}
use Rattle.std.proofs.Common.{Option, Some, None, refl, sym, ap, subst, arith, inl, inr, ◌⊎◌, ⊎_elim, if◌then◌else◌}
use Rattle.std.proofs.Common.{◌∙◌}
use Rattle.std.specs.Prelude.{slice_get, ◌==◌}
use Rattle.std.proofs.lemmas.Bool.{cases_lt, eqb-true}
use Rattle.std.proofs.lemmas.Option.{slice_get-get_or, same_Some}
use Rattle.ck_base.specs.declared.positions.Pos.{Pos}
use Rattle.c_tree.specs.Terms.{Action, actions}
use Rattle.c_tree.specs.Typing.{Sound}
use Rattle.c_tree.specs.Views.{terms_of, actions_of, action_at, kind_action, nowhere, parts, times_in, IsOrdered}
use Rattle.c_tree.specs.WellTyped.{declared, all_declared, FunctionFits}
use Rattle.c_tree.specs.declared.typed.FunDef.{FunDef}
use Rattle.c_tree.specs.declared.typed.Stmt.{Stmt}
use Rattle.c_tree.specs.declared.typed.StmtKind.{StmtKind}
use Rattle.c_tree.specs.declared.typed.StmtKind.TheVariants as stmts
use Rattle.c_tree.specs.declared.typed.Typed.{Typed}
use Rattle.c_tree.specs.declared.typed.VarDef.{VarDef}
use Rattle.typing_laws.proofs.Sound.{well_typed}
use Rattle.typing_laws.specs.Scoping.{IsAmong}
use Rattle.cheri_c_sem.specs.Expressions.{expr_tree}
use Rattle.cheri_c_sem.specs.Programs as means
use Rattle.cheri_c_sem.specs.Programs.{function_tree, lengths_of, parameter_of, statements, stmt_tree, stmt_kind_tree}
use Rattle.cheri_c_sem.specs.Tree.{Ex, Simple, Objects, In_variable, In_object, St}
use Rattle.cheri_c_sem.specs.Types.{is_simple, kind_of, objects_before, size_in, type_of_var}
use Rattle.cheri_c_sem.proofs.Unfold.{statement_node}
use Rattle.c_tree.specs.Layout.{bare}
use Rattle.placement.proofs.Ordering.{ordered_of}
use Rattle.tac_ir.specs.declared.code.TacFun.{TacFun}
use Rattle.lower_runs.specs.Expressions.{Signature}
use Rattle.lower_runs.specs.Programs.{IsCodeOf, AreCodeOf}
use Rattle.value_trees.proofs.Blocks.{among_either, at_among, declares_object}
use Rattle.value_trees.proofs.Nodes.{statement_is}
use Rattle.value_trees.proofs.Uses.{counted, times_cons}
use Rattle.lower_forms.specs.Laws.{ObjectsBecomeZero}
use Rattle.lower_forms.proofs.Running.{body_runs}
use Rattle.lower_forms.proofs.Zeroed.{zeroed_at, Holds, Takes, Declares, AnyDeclares, function_zeroes, shorter_zeroes}

-- ---- the variable of an object

-- the object with a number is that of a variable
record IsObject (vars : List VarDef) (o : ℕ) : Type 0 where
  var : ℕ
  below : var < length vars
  object : is_simple (slice_get vars var) ≡ false
  number : objects_before vars var ≡ o

abbrev room : Bool → ℕ
room b = if b then 0 else 1

later : (v : VarDef) (vars : List VarDef) (o m : ℕ) → room v.simple + o ≡ m → IsObject vars o → IsObject (v ∷ vars) m
later v vars o m e h = record {
  var = suc h.var;
  below = omega (arith, h.below);
  object = h.object;
  number = omega (arith, h.number, e);
}

object_is : (p : Typed) (vars : List VarDef) (o : ℕ) → o < length (lengths_of p vars) → IsObject vars o
object_is p [] o lt = absurd (omega (arith, lt))
object_is p (v ∷ vars) o lt = by v.simple refl o lt (object_is p vars)
  where
    by : (b : Bool) → v.simple ≡ b → (o : ℕ) →
        o < length (if b then lengths_of p vars else size_in p.types v.of ∷ lengths_of p vars) →
        ((n : ℕ) → n < length (lengths_of p vars) → IsObject vars n) → IsObject (v ∷ vars) o
    by true e o lt r = later v vars o o (omega (arith, ap room e)) (r o lt)
    by false e zero lt r = record { var = 0; below = omega arith; object = e; number = refl }
    by false e (suc o) lt r = later v vars o (suc o) (omega (arith, ap room e)) (r o (omega (arith, lt)))

times_among : (xs : List ℕ) (k : ℕ) → 1 ≤ times_in k xs → IsAmong xs k
times_among [] k h = absurd (omega (arith, h))
times_among (x ∷ xs) k h = by (x == k) refl (times_among xs k)
  where
    by : (b : Bool) → (x == k) ≡ b → (1 ≤ times_in k xs → IsAmong xs k) → IsAmong (x ∷ xs) k
    by true e r = inl (eqb-true x k e)
    by false e r =
        let z : counted (x == k) ≡ 0 = ap counted e in inr (r (omega (arith, h, z, times_cons k x xs)))

-- ---- where it is declared

abbrev empty : Stmt
empty = record { kind = stmts.Empty; pos = nowhere }

module _ (p : Typed) (w : IsOrdered p) (vars : List VarDef) (x : ℕ) (object : is_simple (slice_get vars x) ≡ false)
  where
    abbrev o : ℕ
    o = objects_before vars x

    abbrev st : ℕ → Action
    st k = action_at (actions_of p) k

    abbrev sts : ℕ → St
    sts k = stmt_tree p vars k

    holds : (xs : List ℕ) → IsAmong xs x → Holds o (map (means.declared p vars) xs)
    holds [] i = absurd i
    holds (y ∷ xs) (inl e) =
        subst (λ d. Holds o (d ∷ map (means.declared p vars) xs))
        (sym (ap (means.declared p vars) e ∙ declares_object p vars x object)) (inl refl)
    holds (y ∷ xs) (inr i) = by (is_simple (slice_get vars y)) (holds xs i)
      where
        by : (b : Bool) → Holds o (map (means.declared p vars) xs) →
            Holds o ((if b then Simple y else Objects (objects_before vars y)) ∷ map (means.declared p vars) xs)
        by true h = h
        by false h = inr h

    takes : (xs : List ℕ) → IsAmong xs x → Takes o (map (parameter_of p vars) xs)
    takes [] i = absurd i
    takes (y ∷ xs) (inl e) =
        let k = kind_of (bare p.types (type_of_var (slice_get vars x))) in
        subst (λ z. Takes o (parameter_of p vars z ∷ map (parameter_of p vars) xs)) (sym e)
        (subst (λ b. Takes o ((if b then In_variable x else In_object o k) ∷ map (parameter_of p vars) xs)) (sym object)
        (inl refl))
    takes (y ∷ xs) (inr i) = by (is_simple (slice_get vars y)) (takes xs i)
      where
        by : (b : Bool) → Takes o (map (parameter_of p vars) xs) → Takes o
            ((if b then In_variable y
            else In_object (objects_before vars y) (kind_of (bare p.types (type_of_var (slice_get vars y)))))
            ∷ map (parameter_of p vars) xs)
        by true h = h
        by false h = inr h

    -- ---- lists of statements

    abbrev Known : List ℕ → Type 0
    Known ks = (j a : ℕ) → slice_get ks j ≡ Some a → IsAmong (declared (st a)) x → Declares o (sts a)

    alone : (k : ℕ) → IsAmong (declared (st k) ++ []) x → IsAmong (declared (st k)) x
    alone k i = ⊎_elim (λ j. j) (λ j. absurd j) (among_either (declared (st k)) [] x i)

    all_declare : (ks : List ℕ) → Known ks → IsAmong (all_declared (actions (map st ks))) x →
        AnyDeclares o (statements sts ks)
    all_declare [] r i = absurd i
    all_declare (k ∷ ks) r i = ⊎_elim (λ j. inl (r 0 k refl j)) (λ j. inr (all_declare ks (λ j a e. r (suc j) a e) j))
        (among_either (declared (st k)) (all_declared (actions (map st ks))) x i)

    -- what begins a `for`, and its body
    firsts_declare : (ks : List ℕ) (y : ℕ) → Known (ks ++ y ∷ []) →
        IsAmong (all_declared (actions (map st ks ++ st y ∷ []))) x →
        AnyDeclares o (statements sts ks) ⊎ Declares o (sts y)
    firsts_declare [] y r i = inr (r 0 y refl (alone y i))
    firsts_declare (k ∷ ks) y r i = ⊎_elim (λ j. inl (inl (r 0 k refl j)))
        (λ j. ⊎_elim (λ a. inl (inr a)) (λ d. inr d) (firsts_declare ks y (λ j a e. r (suc j) a e) j))
        (among_either (declared (st k)) (all_declared (actions (map st ks ++ st y ∷ []))) x i)

    -- ---- one statement

    kind_declares : (kd : StmtKind) (r : Pos) → Known (parts kd) →
        IsAmong (declared (kind_action (terms_of p) kd r st)) x →
        Declares o (stmt_kind_tree p vars (λ k. expr_tree p vars k) sts r kd)
    kind_declares (stmts.Expr a) r k i = absurd i
    kind_declares (stmts.Init y offset a) r k i = absurd i
    kind_declares (stmts.Block xs ks) r k i = ⊎_elim (λ j. inl (holds xs j)) (λ j. inr (all_declare ks k j))
        (among_either xs (all_declared (actions (map st ks))) x i)
    kind_declares (stmts.If c a None) r k i = inl (k 0 a refl (alone a i))
    kind_declares (stmts.If c a (Some b)) r k i =
        ⊎_elim (λ j. inl (k 0 a refl j)) (λ j. inr (k 1 b refl (alone b j)))
        (among_either (declared (st a)) (declared (st b) ++ []) x i)
    kind_declares (stmts.While c a) r k i = k 0 a refl (alone a i)
    kind_declares (stmts.Do a c) r k i = k 0 a refl (alone a i)
    kind_declares (stmts.For xs first t s a) r k i =
        ⊎_elim (λ j. inl (holds xs j)) (λ j. inr (firsts_declare first a k j))
        (among_either xs (all_declared (actions (map st first ++ st a ∷ []))) x i)
    kind_declares (stmts.Switch on xs labels ks) r k i =
        ⊎_elim (λ j. inl (holds xs j)) (λ j. inr (all_declare ks k j))
        (among_either xs (all_declared (actions (map st ks))) x i)
    kind_declares stmts.Break r k i = absurd i
    kind_declares stmts.Continue r k i = absurd i
    kind_declares (stmts.Return a) r k i = absurd i
    kind_declares stmts.Empty r k i = absurd i

    below_declares : (n k : ℕ) → k < n → k < length p.stmts → IsAmong (declared (st k)) x → Declares o (sts k)
    below_declares zero k lt there i = absurd (omega (arith, lt))
    below_declares (suc n) k lt there i =
        let c = get_or p.stmts k empty in
        let e = slice_get-get_or p.stmts k empty there in
        subst (Declares o) (sym (statement_node p vars (ordered_of p w) k c e))
        (kind_declares c.kind c.pos
        (λ j a z. let l = w.parts_before k j a c e z in
        below_declares n a (omega (arith, lt, l)) (omega (arith, there, l)))
        (subst (λ a. IsAmong (declared a) x) (statement_is p w k c e) i))

-- a parameter, or a variable of a block
declared_somewhere : (p : Typed) (w : IsOrdered p) (d : FunDef) → FunctionFits p d → d.body < length p.stmts →
    (n o : ℕ) → IsObject d.vars o →
    (let f = function_tree p n d in Takes o f.params ⊎ Declares o f.body)
declared_somewhere p w d fits below n o h =
    subst (λ o. let f = function_tree p n d in Takes o f.params ⊎ Declares o f.body) h.number
    (by (cases_lt h.var (length d.params)))
  where
    by : (h.var < length d.params) ⊎ (length d.params ≤ h.var) →
        (let f = function_tree p n d in
        Takes (objects_before d.vars h.var) f.params ⊎ Declares (objects_before d.vars h.var) f.body)
    by (inl lt) = inl (takes p w d.vars h.var h.object d.params
        (at_among d.params h.var h.var (fits.params_first h.var lt)))
    by (inr le) = inr (below_declares p w d.vars h.var h.object (suc d.body) d.body (omega arith) below
        (times_among (declared (action_at (actions_of p) d.body)) h.var
        (omega (arith, fits.declared_once h.var le h.below))))

-- ---- programs

record HasCode (p : Typed) (signs : ℕ → Signature) (d : FunDef) (f : TacFun) : Type 0 where
  number : ℕ
  is : IsCodeOf p signs number d f

has_code : (p : Typed) (signs : ℕ → Signature) (n : ℕ) (ds : List FunDef) (fs : List TacFun) →
    AreCodeOf p signs n ds fs →
    (k : ℕ) (d : FunDef) (f : TacFun) → slice_get ds k ≡ Some d → slice_get fs k ≡ Some f → HasCode p signs d f
has_code p signs n [] fs h k d f e i = absurd cc
has_code p signs n (y ∷ ds) [] h k d f e i = absurd h
has_code p signs n (y ∷ ds) (z ∷ fs) h zero d f e i = record {
  number = n;
  is = subst (λ d. IsCodeOf p signs n d f) (same_Some y d e) (subst (IsCodeOf p signs n y) (same_Some z f i) h.0);
}
has_code p signs n (y ∷ ds) (z ∷ fs) h (suc k) d f e i = has_code p signs (suc n) ds fs h.1 k d f e i

pub objects_become_zero : ObjectsBecomeZero
objects_become_zero p h t is k d f there at o lt =
    let w = well_typed p h in
    let c = has_code p is.signs 0 p.funs t.funs is.functions k d f there at in
    zeroed_at (shorter_zeroes c.is.short.code
    (function_zeroes (c.is.function 0) (body_runs p h d.vars d.body)
    (declared_somewhere p w.ordered d (w.funs k d there) (w.ordered.funs k d there).1 c.number o
    (object_is p d.vars o lt))))
