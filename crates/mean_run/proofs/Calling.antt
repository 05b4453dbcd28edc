-- Calls and returns, part by part.
use Rattle.std.proofs.Common.{◌≡◌, ℕ, zero, suc, ◌+◌, ◌-◌, ◌<◌, ◌≤◌, Bool, true, false, List, [], ◌∷◌, ◌++◌, length}
use Rattle.std.proofs.Common.{drop}
use Rattle.std.proofs.Common.{Option, Some, None, Result, Ok, Err, get_or, replicate, refl, sym, ap, subst, ◌∙◌, arith}
use Rattle.std.specs.Prelude.{map, not, option_map, reverse, slice_get, slice_index_or, slice_set, if◌then◌else◌}
use Rattle.std.proofs.lemmas.List.{at_drop_all, at_drop_more}
use Rattle.ck_base.specs.Runs.{Act, Goes}
use Rattle.ck_base.specs.declared.positions.Pos.{Pos}
use Rattle.cap_ops.specs.Permissions.{data_permissions}
use Rattle.c_tree.specs.declared.typed.FunDef.{FunDef}
use Rattle.c_tree.specs.declared.typed.Typed.{Typed}
use Rattle.c_tree.specs.declared.typed.VarDef.{VarDef}
use Rattle.obj_mem.specs.declared.ending.Ending.{Ending}
use Rattle.obj_mem.specs.declared.value.Value as public
use Rattle.obj_mem.specs.Values.{Value, value_of}
use Rattle.cheri_c_sem.specs.Calls.{add_locals, end_locals}
use Rattle.cheri_c_sem.specs.Kinds.{Kind}
use Rattle.cheri_c_sem.specs.Meaning.{At, first_of}
use Rattle.cheri_c_sem.specs.Modes.{Store}
use Rattle.cheri_c_sem.specs.Operations.{Operations}
use Rattle.cheri_c_sem.specs.Programs.{function_tree, function_trees, lengths_of}
use Rattle.cheri_c_sem.specs.Tree.{Fun, Parameter, In_variable, In_object}
use Rattle.cheri_c_sem.specs.Types.{objects_before, size_in}
use Rattle.mean_steps.specs.Machine.{Execute, Leave_function, Moment, behind, beyond, call, closed, doing, done_in}
use Rattle.mean_steps.specs.Machine.{opened, turn_behind, turned, two, with_value}
use Rattle.mean_steps.specs.Parts.{Now, Came, On, Over, Part, called, give, next_of, pass, pass_one, store, turn}
use Rattle.mean_run.specs.declared.call.Call.{Call}
use Rattle.mean_run.specs.declared.state.State.{State}
use Rattle.mean_work.specs.declared.work.Stop.{Stop}
use Rattle.mean_work.specs.declared.work.Stop.TheVariants as stop
use Rattle.mean_work.specs.declared.work.Work.TheVariants as work
use Rattle.mean_run.specs.Calls.{Enters, given_behind}
use Rattle.mean_run.specs.Locals.{vars_of}
use Rattle.mean_run.specs.Parts.{Becomes, Did, Does, Gives, Unless_wanting}
use Rattle.mean_run.specs.Views.{caller_of, fun_of, funs_of, moment_of, now_of, vars_at}
use Rattle.mean_work.proofs.Reversed.{reverse_push}

-- ---- values that are taken

pub none_turned : (n : ℕ) (others : List Value) → turned n [] others ≡ others
none_turned zero others = refl
none_turned (suc n) others = refl

pub none_beyond : (n : ℕ) → beyond n [] ≡ []
none_beyond zero = refl
none_beyond (suc n) = refl

pub empty_turned : (n : ℕ) (vs : List public.Value) (others : List Value) → vs ≡ [] →
    turned n (map value_of vs) others ≡ others
empty_turned n vs others e = rw e (none_turned n others)

pub empty_beyond : (n : ℕ) (vs : List public.Value) → vs ≡ [] → beyond n (map value_of vs) ≡ []
empty_beyond n vs e = rw e (none_beyond n)

-- the values of a state are others, and all else is kept
pub with_values : (p : Typed) (held : Store) (old s : State) (vs : List public.Value) (ws : List Value) →
    s ≡ record old { values = s.values } → map value_of vs ≡ ws →
    moment_of p (record s { values = vs }) held ≡ record (moment_of p old held) { values = ws }
with_values p held old s vs ws kept e =
    ap (λ (t : State). moment_of p (record t { values = vs }) held) kept
    ∙ ap {B = Moment Store} (λ w. record (moment_of p old held) { values = w }) e

module _ (n i : ℕ) where
  some_left : i < n → n - i ≡ suc (n - (i + 1))
  some_left lt = omega arith

  pub one_turned : (vs ws : List public.Value) (v : public.Value) (xs : List public.Value) → i < n → vs ≡ v ∷ ws →
      turned (n - i) (map value_of vs) (map value_of (reverse xs))
      ≡ turned (n - (i + 1)) (map value_of ws) (map value_of (reverse (xs ++ v ∷ [])))
  one_turned vs ws v xs lt e = rw (e, some_left lt, reverse_push xs v) refl

  pub next_turned : (vs ws : List public.Value) (v : public.Value) (others : List Value) → i < n → vs ≡ v ∷ ws →
      turned (n - i) (map value_of vs) others ≡ turned (n - (i + 1)) (map value_of ws) (value_of v ∷ others)
  next_turned vs ws v others lt e = rw (e, some_left lt) refl

  pub one_beyond : (vs ws : List public.Value) (v : public.Value) → i < n → vs ≡ v ∷ ws →
      beyond (n - i) (map value_of vs) ≡ beyond (n - (i + 1)) (map value_of ws)
  one_beyond vs ws v lt e = rw (e, some_left lt) refl

-- ---- functions by their numbers

trees_at : (p : Typed) (n k : ℕ) (fs : List FunDef) →
    slice_get (function_trees p n fs) k ≡ option_map (function_tree p (n + k)) (slice_get fs k)
trees_at p n k [] = refl
trees_at p n zero (f ∷ fs) = let e : n ≡ n + 0 = omega arith in ap (λ k. Some (function_tree p k f)) e
trees_at p n (suc k) (f ∷ fs) =
    let e : suc n + k ≡ n + suc k = omega arith in
    trees_at p (suc n) k fs ∙ ap (λ i. option_map (function_tree p i) (slice_get fs k)) e

pub fun_at : (p : Typed) (g : ℕ) → slice_get (funs_of p) g ≡ option_map (function_tree p g) (slice_get p.funs g)
fun_at p g =
    let e : 0 + g ≡ g = omega arith in
    trees_at p 0 g p.funs ∙ ap (λ i. option_map (function_tree p i) (slice_get p.funs g)) e

module _ {A : Type 0} (h : A → Bool) where
  pub index_none : (xs : List A) (k : ℕ) → slice_get xs k ≡ None → false ≡ slice_index_or (map h xs) k false
  index_none [] k e = refl
  index_none (x ∷ xs) zero e = absurd (let i : ◌≡◌ {A = Option A} (Some x) None = e in cc)
  index_none (x ∷ xs) (suc k) e = index_none xs k e

  pub index_some : (xs : List A) (k : ℕ) (x : A) → slice_get xs k ≡ Some x → h x ≡ slice_index_or (map h xs) k false
  index_some [] k x e = absurd (let i : ◌≡◌ {A = Option A} None (Some x) = e in cc)
  index_some (y ∷ xs) zero x e =
      let i : ◌≡◌ {A = Option A} (Some y) (Some x) = e in
      let j : x ≡ y = cc in
      ap h j
  index_some (y ∷ xs) (suc k) x e = index_some xs k x e

-- ---- objects

counted_if : (b : Bool) (n : ℕ) (ls : List ℕ) (k : ℕ) → length ls ≡ k →
    length (if b then ls else n ∷ ls) ≡ (if b then 0 else 1) + k
counted_if true n ls k h = omega arith
counted_if false n ls k h = omega arith

pub objects_counted : (p : Typed) (vars : List VarDef) → length (lengths_of p vars) ≡ objects_before vars (length vars)
objects_counted p [] = refl
objects_counted p (v ∷ vs) = counted_if v.simple (size_in p.types v.of) (lengths_of p vs) _ (objects_counted p vs)

module _ (p : Typed) (vars : List VarDef) (i : ℕ) (v : VarDef) (d : VarDef)
    (lt : i < length vars) (is : v ≡ get_or vars i d) where
  pub simple_more : v.simple ≡ true → lengths_of p (drop i vars) ≡ lengths_of p (drop (i + 1) vars)
  simple_more h = at_drop_more (lengths_of p) vars i d lt ∙ rw (← is, h) refl

  pub object_more : v.simple ≡ false →
      lengths_of p (drop i vars) ≡ size_in p.types v.of ∷ lengths_of p (drop (i + 1) vars)
  object_more h = at_drop_more (lengths_of p) vars i d lt ∙ rw (← is, h) refl

module _ (ops : Operations Store) (p : Typed) (frame g : ℕ) (vars : List VarDef) (i : ℕ) (v d : VarDef)
    (lt : i < length vars) (is : v ≡ get_or vars i d) (held left : Store) (n k : ℕ) where
  abbrev added : Store → ℕ → ℕ → Store
  added m n i = add_locals ops m frame g n (lengths_of p (drop i vars))

  added_by : (b : Bool) → v.simple ≡ b → k ≡ n + (if b then 0 else 1) →
      left ≡ (if b then held else ops.add_local held frame g n (size_in p.types v.of)) →
      added held n i ≡ added left k (i + 1)
  added_by true h k_is left_is =
      let e : n ≡ k = omega arith in
      ap (add_locals ops held frame g n) (simple_more p vars i v d lt is h) ∙ rw (left_is, ← e) refl
  added_by false h k_is left_is =
      let e : suc n ≡ k = omega arith in
      ap (add_locals ops held frame g n) (object_more p vars i v d lt is h) ∙ rw (left_is, ← e) refl

  pub one_added : k ≡ n + (if v.simple then 0 else 1) →
      left ≡ (if v.simple then held else ops.add_local held frame g n (size_in p.types v.of)) →
      added held n i ≡ added left k (i + 1)
  one_added k_is left_is = added_by v.simple refl k_is left_is

objects_in : (p : Typed) (g : ℕ) (o : Option FunDef) →
    length (fun_of p g o).objects ≡ objects_before (vars_of o) (length (vars_of o))
objects_in p g None = refl
objects_in p g (Some d) = objects_counted p d.vars

-- the objects that end
pub objects_at : (p : Typed) (g : ℕ) → length (fun_of p g (slice_get p.funs g)).objects
    ≡ objects_before (vars_at p g) (length (vars_at p g))
objects_at p g = objects_in p g (slice_get p.funs g)

pub one_ended : (ops : Operations Store) (held left : Store) (first i : ℕ) (ls : List ℕ) → i < length ls →
    left ≡ ops.end held (first + i) →
    end_locals ops held (first + i) (drop i ls) ≡ end_locals ops left (first + (i + 1)) (drop (i + 1) ls)
one_ended ops held left first i ls lt e =
    let n : suc (first + i) ≡ first + (i + 1) = omega arith in
    at_drop_more (end_locals ops held (first + i)) ls i 0 lt ∙ rw (e, ← n) refl

pub ended_as : (o ops : Operations Store) (held : Store) (n k : ℕ) → o ≡ ops → n ≡ k →
    o.end held n ≡ ops.end held k
ended_as o ops held n k e h = ap (λ (o : Operations Store). o.end held n) e ∙ ap (ops.end held) h

pub all_ended : (ops : Operations Store) (held : Store) (first i : ℕ) (ls : List ℕ) → length ls ≤ i →
    end_locals ops held (first + i) (drop i ls) ≡ held
all_ended ops held first i ls le = at_drop_all (end_locals ops held (first + i)) ls i le

-- ---- frames

pub none_given : (n : ℕ) → map (option_map value_of) (replicate n None) ≡ replicate n None
none_given zero = refl
none_given (suc n) = ap (λ l. None ∷ l) (none_given n)

module _ (ops : Operations Store) (p : Typed) (g : ℕ) (d : FunDef) (old new : State) (held left : Store)
    (address : ℕ) where
  pub frame_entered : new.call.variables.items ≡ replicate (length d.vars) None → new.call.first ≡ ops.count held →
      new.call.frame ≡ address → new.callers ≡ old.call ∷ old.callers → new.work ≡ old.work →
      new.values ≡ old.values → new.places ≡ old.places → new.left ≡ old.left →
      left ≡ add_locals ops held address g 0 (lengths_of p d.vars) →
      Enters ops p g d old new held left (Some address) (Ok tt)
  frame_entered items first at callers works values places turns mem = (
    rw (items, first, at, turns, mem, none_given (length d.vars)) refl,
    rw (callers, works, values, places) refl,
  )

-- ---- a part that was done, and what follows it

module _ {A B : Type 0} (c : Part Store A) (view : B → A) (p : Typed) (t u : State) (held left : Store)
    (k : A → Moment Store → Act (Moment Store) Ending) where
  pub did_ends : (s : Stop) (m : Moment Store) → Did c view p t u held left (Err s) →
      Does (doing c (moment_of p t held) k) m (Err s)
  did_ends stop.NoMemory m d = tt
  did_ends (stop.Ended e) m d = ap (done_in (moment_of p t held) k) d

  pub did_goes : (x : B) → Did c view p t u held left (Ok x) →
      k (view x) (moment_of p u left) ≡ doing c (moment_of p t held) k
  did_goes x (d, e) = ap (k (view x)) e ∙ sym (ap (done_in (moment_of p t held) k) d)

  pub gives_ends : (s : Stop) (m : Moment Store) → Gives (c (now_of t held)) view (now_of t held) (Err s) →
      Does (doing c (moment_of p t held) k) m (Err s)
  gives_ends stop.NoMemory m d = tt
  gives_ends (stop.Ended e) m d = ap (done_in (moment_of p t held) k) d

  pub gives_goes : (x : B) → Gives (c (now_of t held)) view (now_of t held) (Ok x) →
      k (view x) (moment_of p t held) ≡ doing c (moment_of p t held) k
  gives_goes x d = sym (ap (done_in (moment_of p t held) k) d)

-- the same part, by the operations that are the same
pub did_in : {A B : Type 0} (c : Operations Store → Part Store A) (view : B → A) (p : Typed) (t u : State)
    (held left : Store) (r : Result B Stop) (o ops : Operations Store) → o ≡ ops → Did (c o) view p t u held left r →
    Did (c ops) view p t u held left r
did_in c view p t u held left r o ops e d = subst (λ o. Did (c o) view p t u held left r) e d

-- the same part of another form
pub did_as : {A B : Type 0} (c d : Part Store A) (view : B → A) (p : Typed) (t u : State) (between held left : Store)
    (r : Result B Stop) → c (now_of t between) ≡ d (now_of t held) → Did c view p t u between left r →
    Did d view p t u held left r
did_as c d view p t u between held left (Ok x) e h = (sym e ∙ h.0, h.1)
did_as c d view p t u between held left (Err (stop.Ended y)) e h = sym e ∙ h
did_as c d view p t u between held left (Err stop.NoMemory) e h = tt

-- ---- arguments

module _ (ops : Operations Store) (p : Typed) (pos : Pos) (s : State) (held : Store) (v : Value) where
  pub object_passed : (b : Bool) (x n object : ℕ) (j k : Kind) (to : Value) (between : Store) → not b ≡ true → j ≡ k →
      object ≡ s.call.first + n → to ≡ ops.whole held object data_permissions → between ≡ ops.zero held object →
      store ops j (At pos to) v (now_of s between)
      ≡ pass_one ops pos (if b then In_variable x else In_object n k) v (now_of s held)
  object_passed true x n object j k to between h is_kind is_object is_to is_zero =
      absurd (let e : false ≡ true = h in cc)
  object_passed false x n object j k to between h is_kind is_object is_to is_zero =
      rw (is_to, is_zero, is_kind, is_object) refl

  pub variable_passed : (b : Bool) (x n : ℕ) (k : Kind) (t : State) → not b ≡ false →
      Becomes s t (λ p m. record m { now = record m.now { vars = slice_set m.now.vars x (Some v) } }) →
      Did (pass_one ops pos (if b then In_variable x else In_object n k) v) (λ (u : Unit {0}). u) p s t held held
      (Ok tt)
  variable_passed true x n k t h c =
      let set = c p held in
      let now = ap (λ (m : Moment Store). m.now) set in (
        ap (λ n. On tt n) (sym now),
        set ∙ ap (λ n. record (moment_of p s held) { now = n }) (sym now),
      )
  variable_passed false x n k t h c = absurd (let e : true ≡ false = h in cc)

module _ (ops : Operations Store) (pos : Pos) where
  no_arguments : (ps : List Parameter) (n : Now Store) → pass ops pos ps [] n ≡ On tt n
  no_arguments [] n = refl
  no_arguments (a ∷ ps) n = refl

  module _ (par : ℕ → Parameter) (xs : List ℕ) (i : ℕ) (vs : List public.Value) (n : Now Store)
      (whole : Came Store (Unit {0})) where
    abbrev rest_from : ℕ → List public.Value → Now Store → Came Store (Unit {0})
    rest_from i vs n = pass ops pos (map par (drop i xs)) (map value_of (reverse vs)) n

    pub none_left : vs ≡ [] → whole ≡ rest_from i vs n → whole ≡ On tt n
    none_left e h = h ∙ rw e (no_arguments (map par (drop i xs)) n)

    pub no_more : length xs ≤ i → whole ≡ rest_from i vs n → whole ≡ On tt n
    no_more le h = h ∙ at_drop_all (λ ys. pass ops pos (map par ys) (map value_of (reverse vs)) n) xs i le

    module _ (ws : List public.Value) (v : public.Value) (x : ℕ) (lt : i < length xs) (is : x ≡ get_or xs i x)
        (popped : vs ≡ ws ++ v ∷ []) where
      here : rest_from i vs n
          ≡ next_of (pass_one ops pos (par x) (value_of v) n) (λ _. rest_from (i + 1) ws)
      here = at_drop_more (λ ys. pass ops pos (map par ys) (map value_of (reverse vs)) n) xs i x lt
          ∙ rw (← is, popped, reverse_push ws v) refl

      pub one_passed : (m : Now Store) → pass_one ops pos (par x) (value_of v) n ≡ On tt m → whole ≡ rest_from i vs n →
          whole ≡ rest_from (i + 1) ws m
      one_passed m d h = h ∙ (here ∙ ap (λ c. next_of c (λ _. rest_from (i + 1) ws)) d)

      pub one_over : (e : Ending) → pass_one ops pos (par x) (value_of v) n ≡ Over e → whole ≡ rest_from i vs n →
          whole ≡ Over e
      one_over e d h = h ∙ (here ∙ ap (λ c. next_of c (λ _. rest_from (i + 1) ws)) d)

-- ---- the whole of a call

module _ (ops : Operations Store) (p : Typed) (first : Bool) (g : ℕ) (d : FunDef) (vs : List Value)
    (old s : State) (held mid : Store) (there : slice_get p.funs g ≡ Some d) where
  abbrev tree : Fun
  tree = function_tree p g d

  abbrev opens : Act (Moment Store) Ending
  opens = opened ops (funs_of p) first g (slice_get (funs_of p) g) vs (moment_of p old held)

  opens_as : opened ops (funs_of p) first g (Some tree) vs (moment_of p old held) ≡ opens
  opens_as = ap (λ o. opened ops (funs_of p) first g o vs (moment_of p old held))
      (sym (fun_at p g ∙ ap (option_map (function_tree p g)) there))

  abbrev after_frame : Came Store (Unit {0}) → Act (Moment Store) Ending
  after_frame c = done_in (record (moment_of p old held) { callers = caller_of old.call ∷ map caller_of old.callers })
      (λ _ t. Goes (two (Execute tree.body) (Leave_function first tree) t))
      (next_of c (λ _. pass ops tree.name tree.params vs))

  pub frame_over : (x : Stop) (m : Moment Store) →
      Enters ops p g d old s held mid (ops.enter g old.call.frame) (Err x) →
      Does opens m (Err x)
  frame_over stop.NoMemory m e = tt
  frame_over (stop.Ended y) m e = sym opens_as ∙ ap after_frame e

  module _ (entered : Enters ops p g d old s held mid (ops.enter g old.call.frame) (Ok tt)) where
    pub arguments_over : (left : Store) (u : State) (x : Stop) (m : Moment Store) →
        Did (pass ops tree.name tree.params vs) (λ (u : Unit {0}). u) p s u mid left (Err x) → Does opens m (Err x)
    arguments_over left u stop.NoMemory m e = tt
    arguments_over left u (stop.Ended y) m e =
        sym opens_as ∙ (ap after_frame entered.0
        ∙ ap (done_in (record (moment_of p old held) { callers = caller_of old.call ∷ map caller_of old.callers })
        (λ _ t. Goes (two (Execute tree.body) (Leave_function first tree) t))) e)

    pub body_entered : (left : Store) (u new : State) (r : Result (Unit {0}) Stop) →
        Did (pass ops tree.name tree.params vs) (λ (u : Unit {0}). u) p s u mid left (Ok tt) →
        Unless_wanting r (new ≡ record u { work = work.Statement g d.body ∷ work.Return g first ∷ u.work }) →
        Does opens (moment_of p new left) r
    body_entered left u new (Err stop.NoMemory) e h = tt
    body_entered left u new (Err (stop.Ended y)) e h = absurd h
    body_entered left u new (Ok x) e h =
        sym opens_as ∙ (ap after_frame entered.0
        ∙ (ap (done_in (record (moment_of p old held) { callers = caller_of old.call ∷ map caller_of old.callers })
        (λ _ t. Goes (two (Execute tree.body) (Leave_function first tree) t))) e.0
        ∙ (ap (λ n. Goes (two (Execute tree.body) (Leave_function first tree) n))
        (ap (λ (m : Moment Store). record m { now = now_of u left }) (sym entered.1) ∙ sym e.1)
        ∙ rw (h, there) refl)))

module _ (ops : Operations Store) (p : Typed) (pos : Pos) (fs : List Bool) (count g : ℕ) (m : Moment Store)
    (t : State) (held : Store) (taken : moment_of p t held ≡ record m { values = behind (beyond count m.values) })
    (callee : Value) (is_callee : callee ≡ first_of (beyond count m.values)) where
  abbrev after_called : Came Store ℕ → Act (Moment Store) Ending
  after_called c = done_in (record m { values = behind (beyond count m.values) })
      (λ f t. opened ops (funs_of p) false f (slice_get (funs_of p) f) (turned count m.values []) t)
      (next_of c (λ f n. next_of (turn n) (λ _. give f)))

  now_is : now_of t held ≡ m.now
  now_is = ap (λ (m : Moment Store). m.now) taken

  as_called : after_called (called ops pos fs callee (now_of t held)) ≡ call ops (funs_of p) pos fs count m
  as_called = rw (is_callee, now_is) refl

  pub called_over : (s : Stop) (n : Moment Store) →
      Gives (called ops pos fs callee (now_of t held)) (λ (g : ℕ). g) (now_of t held) (Err s) →
      Does (call ops (funs_of p) pos fs count m) n (Err s)
  called_over stop.NoMemory n e = tt
  called_over (stop.Ended x) n e = sym as_called ∙ ap after_called e

  module _ (goes : called ops pos fs callee (now_of t held) ≡ On g (now_of t held)) where
    abbrev after_turn : Came Store (Unit {0}) → Act (Moment Store) Ending
    after_turn c = done_in (record m { values = behind (beyond count m.values) })
        (λ f t. opened ops (funs_of p) false f (slice_get (funs_of p) f) (turned count m.values []) t)
        (next_of c (λ _. give g))

    pub turn_over : (u : State) (s : Stop) (n : Moment Store) →
        Did turn (λ (u : Unit {0}). u) p t u held held (Err s) → Does (call ops (funs_of p) pos fs count m) n (Err s)
    turn_over u stop.NoMemory n e = tt
    turn_over u (stop.Ended x) n e = sym as_called ∙ (ap after_called goes ∙ ap after_turn e)

    pub call_opens : (u : State) (args : List Value) → args ≡ turned count m.values [] →
        Did turn (λ (u : Unit {0}). u) p t u held held (Ok tt) →
        opened ops (funs_of p) false g (slice_get (funs_of p) g) args (moment_of p u held)
        ≡ call ops (funs_of p) pos fs count m
    call_opens u args is_args (e, f) =
        sym (sym as_called ∙ (ap after_called goes ∙ (ap after_turn e
        ∙ (ap (λ vs. opened ops (funs_of p) false g (slice_get (funs_of p) g) vs
        (record m { values = behind (beyond count m.values); now = now_of u held })) (sym is_args)
        ∙ ap (opened ops (funs_of p) false g (slice_get (funs_of p) g) args)
        (ap (λ (m : Moment Store). record m { now = now_of u held }) (sym taken) ∙ sym f)))))

-- ---- returns

module _ (ops : Operations Store) (p : Typed) (first : Bool) (g : Fun) (v : Value) (old s : State)
    (held left : Store) (ended : left ≡ end_locals ops held old.call.first g.objects) where
  then_given : (m : Moment Store) (n : Now Store) (c : Came Store (Unit {0})) →
      done_in (record m { now = n }) (λ _ t. Goes (with_value v t)) c ≡ done_in m (λ _ t. Goes (with_value v t)) c
  then_given m n (On x k) = refl
  then_given m n (Over e) = refl

  pub closed_last : old.callers ≡ [] → s ≡ record old { callers = [] } →
      given_behind first v (moment_of p s left)
      ≡ closed ops (funs_of p) first g v (map caller_of old.callers) (moment_of p old held)
  closed_last none is =
      rw (none, is, ended) (then_given (record (moment_of p old held) { callers = [] })
      (now_of old (end_locals ops held old.call.first g.objects))
      (turn_behind first (now_of old (end_locals ops held old.call.first g.objects))))

  pub closed_more : (caller : Call) (cs : List Call) → old.callers ≡ caller ∷ cs →
      s ≡ record old { callers = cs; call = caller } →
      given_behind first v (moment_of p s left)
      ≡ closed ops (funs_of p) first g v (map caller_of old.callers) (moment_of p old held)
  closed_more caller cs some is =
      rw (some, is, ended) (then_given (record (moment_of p old held) { callers = map caller_of cs })
      (now_of (record old { callers = cs; call = caller }) (end_locals ops held old.call.first g.objects))
      (turn_behind first
      (now_of (record old { callers = cs; call = caller }) (end_locals ops held old.call.first g.objects))))
