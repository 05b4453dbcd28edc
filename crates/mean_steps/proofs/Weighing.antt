-- Fewer acts are left after each act, and the machine's own endings are no faults of the outside.
use Rattle.std.proofs.Common.{◌≡◌, ◌≢◌, ℕ, zero, suc, ◌+◌, ◌≤◌, ◌<◌, Bool, true, false, List, [], ◌∷◌, Option, Some}
use Rattle.std.proofs.Common.{None, Ok, refl, subst, sym, inl, inr, arith}
use Rattle.std.specs.Prelude.{slice_get, if◌then◌else◌}
use Rattle.ck_base.specs.Calls.{Seen, Acted}
use Rattle.ck_base.specs.RunLaws.{HasOwnEndings}
use Rattle.ck_base.specs.Runs.{Act, Goes, Puts, Reads, Ends}
use Rattle.ck_base.specs.declared.positions.Pos.{Pos}
use Rattle.obj_mem.specs.Values.{Value}
use Rattle.obj_mem.specs.Values as value
use Rattle.obj_mem.specs.declared.ending.Ending.{Ending}
use Rattle.obj_mem.specs.declared.ending.Ending.TheVariants as ending
use Rattle.cheri_c_sem.specs.Kinds.{Kind, nothing, number_of, truth}
use Rattle.cheri_c_sem.specs.Operations.{Operations, on_ok}
use Rattle.cheri_c_sem.specs.Tree.{Service, Put_char, Get_char, Malloc, Exit, Address, Bounds, Works, Ex, Number, Null}
use Rattle.cheri_c_sem.specs.Tree.{Load, Aggregate, Pointer_to, Convert, Discard, Unary, Not, Binary, Compare, And, Or}
use Rattle.cheri_c_sem.specs.Tree.{Conditional, Comma, Assign, Copy, Compound, Call, Library, Variable, Local, Object}
use Rattle.cheri_c_sem.specs.Tree.{Function, Deref, Member, Exs, Nil, Cons, Declared, Label, St, Do, Give, Init, Fill}
use Rattle.cheri_c_sem.specs.Tree.{Block, If, While, Do_while, For, Switch, Break, Continue, Return, Empty, Sts, End}
use Rattle.cheri_c_sem.specs.Tree.{Seq, Fun}
use Rattle.cheri_c_sem.specs.Meaning.{At, capability_of, first_of, second_of}
use Rattle.cheri_c_sem.specs.Statements.{Flow, Breaks, Continues, Returns, default_of}
use Rattle.cheri_c_sem.specs.Statements as flow
use Rattle.mean_steps.specs.Parts.{Now, Came, On, Over, Part}
use Rattle.mean_steps.specs.Machine as machine
use Rattle.mean_steps.specs.Machine.{Loop, Before, Behind, Item, Evaluate, Designate, Drop, Finish, Finish_place}
use Rattle.mean_steps.specs.Machine.{Choose, Choose_place, Decide, Begin, Leave_function, Execute, Rest, Initialize}
use Rattle.mean_steps.specs.Machine.{Branch, Test, Tested, Again, Turn, Choose_label, Switch_end, Leave, Give_back}
use Rattle.mean_steps.specs.Machine.{Caller, Moment, behind, first_place, turned, beyond, count_of, before_arguments}
use Rattle.mean_steps.specs.Machine.{execs_behind, with_value, with_place, less_value, less_place, doing, done_in}
use Rattle.mean_steps.specs.Machine.{caller_of, back, turn_behind, evaluate, designate, finish, values_behind}
use Rattle.mean_steps.specs.Machine.{places_behind, finished, opened, closed, finish_item, finish_place, chosen}
use Rattle.mean_steps.specs.Machine.{choose_item, choose_place, decide, jumped, execute, proceed, initialize, branch}
use Rattle.mean_steps.specs.Machine.{at_test, turned_to, tested, again, to_label, choose_label, act_on, act_of, act}
use Rattle.mean_steps.specs.Machine.{limits}
use Rattle.mean_steps.specs.Weights.{exs_size, st_size, sts_size, loop_size, all_sizes, item_weight, work_weight}
use Rattle.mean_steps.specs.Weights.{by_turns, acts_left}
use Rattle.mean_steps.proofs.Steady.{IsOwn, Spent, Spends, steady_give, spends_bind, steady_bind, spends_turn}
use Rattle.mean_steps.proofs.Steady.{steady_ask, steady_set_variable, steady_store, steady_copy, steady_part_of_local}
use Rattle.mean_steps.proofs.Steady.{steady_test, steady_allocate, steady_enter, steady_leave, steady_find_label}
use Rattle.mean_steps.proofs.Steady.{steady_called, steady_frame, steady_pass, steady_at_end, steady_close, steady_back}
use Rattle.mean_steps.proofs.Steady.{steady_turn_behind, steady_finish}

-- what a turn pays for, of an item
abbrev pub item_bound : Item → ℕ
item_bound (Execute a) = st_size a
item_bound (Rest ss) = sts_size ss
item_bound (Branch a) = st_size a
item_bound (Test l) = loop_size l
item_bound (Tested l) = loop_size l
item_bound (Again l) = loop_size l
item_bound (Turn l) = loop_size l
item_bound (Choose_label a) = st_size a
item_bound _ = 0

behind_smaller : (ss : Sts) (n : ℕ) → sts_size (execs_behind ss n) ≤ sts_size ss
behind_smaller End n = omega arith
behind_smaller (Seq a ss) zero = omega arith
behind_smaller (Seq a ss) (suc n) = let h = behind_smaller ss n in omega arith

-- a turn pays for a function's body
abbrev BodyFits : ℕ → Option Fun → Type 0
BodyFits most None = Unit {0}
BodyFits most (Some g) = st_size g.body + 4 ≤ most

body_fits : (most : ℕ) (fs : List Fun) (f : ℕ) → all_sizes fs ≤ most → BodyFits most (slice_get fs f)
body_fits most [] f h = tt
body_fits most (g ∷ fs) zero h = omega arith
body_fits most (g ∷ fs) (suc f) h = body_fits most fs f (omega arith)

module _ {M : Type 0} (ops : Operations M) (funs : List Fun) where
  abbrev most : ℕ
  most = all_sizes funs

  abbrev pub Within : List Item → Type 0
  Within [] = Unit {0}
  Within (i ∷ is) = (item_bound i ≤ most) × Within is

  abbrev pub Fewer : Type 0 → ℕ → Moment M → Type 0
  Fewer h n m = h → (by_turns most m.now.left + work_weight most m.work < n) × Within m.work

  -- where h holds, all that may follow has fewer acts left than these
  abbrev pub Falls : Type 0 → ℕ → Act (Moment M) Ending → Type 0
  Falls h n (Goes m) = Fewer h n m
  Falls h n (Puts b m) = Fewer h n m
  Falls h n (Reads to) = (b : Option ℕ) → Fewer h n (to b)
  Falls h n (Ends e) = IsOwn e

  weaker : (h h' : Type 0) (n n' : ℕ) (a : Act (Moment M) Ending) → (h' → h) → n ≤ n' → Falls h n a → Falls h' n' a
  weaker h h' n n' (Goes m) to le f = λ x. let r = f (to x) in let less = r.0 in (omega arith, r.1)
  weaker h h' n n' (Puts b m) to le f = λ x. let r = f (to x) in let less = r.0 in (omega arith, r.1)
  weaker h h' n n' (Reads t) to le f = λ b x. let r = f b (to x) in let less = r.0 in (omega arith, r.1)
  weaker h h' n n' (Ends e) to le f = f

  falls_in : {A : Type 0} (fewer n : ℕ) (h : Type 0) (r : Came M A) (m : Moment M)
      (l : A → Moment M → Act (Moment M) Ending) → Spent most fewer (by_turns most m.now.left) r →
      ((x : A) (t : Now M) → by_turns most t.left + fewer ≤ by_turns most m.now.left →
      Falls h n (l x (record m { now = t }))) → Falls h n (done_in m l r)
  falls_in fewer n h (On x t) m l s f = f x t s
  falls_in fewer n h (Over e) m l s f = s

  falls_by : {A : Type 0} (fewer n : ℕ) (h : Type 0) (p : Part M A) → Spends most fewer p →
      (m : Moment M) (l : A → Moment M → Act (Moment M) Ending) →
      ((x : A) (t : Now M) → by_turns most t.left + fewer ≤ by_turns most m.now.left →
      Falls h n (l x (record m { now = t }))) → Falls h n (doing p m l)
  falls_by fewer n h p s m l f = falls_in fewer n h (p m.now) m l (s.at m.now) f

  -- the acts that are left with an item on top
  abbrev with_item : Item → Moment M → ℕ
  with_item i m = by_turns most m.now.left + (item_weight most i + work_weight most m.work)

  abbrev Lessens : Item → Moment M → Act (Moment M) Ending → Type 0
  Lessens i m a = Falls (Within (i ∷ m.work)) (with_item i m) a

  -- ---- expressions

  arguments_weight : (es : Exs) (is : List Item) →
      work_weight most (before_arguments es is) ≡ exs_size es + work_weight most is
  arguments_weight Nil is = omega arith
  arguments_weight (Cons e es) is = let h = arguments_weight es is in omega arith

  arguments_within : (es : Exs) (is : List Item) → Within is → Within (before_arguments es is)
  arguments_within Nil is h = h
  arguments_within (Cons e es) is h = (omega arith, arguments_within es is h)

  evaluate_falls : (e : Ex) (m : Moment M) → Lessens (Evaluate e) m (evaluate ops funs e m)
  evaluate_falls (Number n) m = λ h. (omega arith, h.1)
  evaluate_falls (Null n) m = λ h. (omega arith, h.1)
  evaluate_falls (Load k e) m = λ h. (omega arith, (omega arith, (omega arith, h.1)))
  evaluate_falls (Aggregate e) m = λ h. (omega arith, (omega arith, (omega arith, h.1)))
  evaluate_falls (Pointer_to p n e) m = λ h. (omega arith, (omega arith, (omega arith, h.1)))
  evaluate_falls (Convert p old new plain e) m = λ h. (omega arith, (omega arith, (omega arith, h.1)))
  evaluate_falls (Discard e) m = λ h. (omega arith, (omega arith, (omega arith, h.1)))
  evaluate_falls (Unary p sign k e) m = λ h. (omega arith, (omega arith, (omega arith, h.1)))
  evaluate_falls (Not p k e) m = λ h. (omega arith, (omega arith, (omega arith, h.1)))
  evaluate_falls (Binary p op a b) m = λ h. (omega arith, (omega arith, (omega arith, (omega arith, h.1))))
  evaluate_falls (Compare p op k a b) m = λ h. (omega arith, (omega arith, (omega arith, (omega arith, h.1))))
  evaluate_falls (And p j k a b) m = λ h. (omega arith, (omega arith, (omega arith, h.1)))
  evaluate_falls (Or p j k a b) m = λ h. (omega arith, (omega arith, (omega arith, h.1)))
  evaluate_falls (Conditional p k c a b) m = λ h. (omega arith, (omega arith, (omega arith, h.1)))
  evaluate_falls (Comma a b) m = λ h. (omega arith, (omega arith, (omega arith, (omega arith, h.1))))
  evaluate_falls (Assign k a b) m = λ h. (omega arith, (omega arith, (omega arith, (omega arith, h.1))))
  evaluate_falls (Copy p bytes unit a b) m = λ h. (omega arith, (omega arith, (omega arith, (omega arith, h.1))))
  evaluate_falls (Compound p op kind computed old a b) m =
      λ h. (omega arith, (omega arith, (omega arith, (omega arith, h.1))))
  evaluate_falls (Call p fits e args) m = λ h.
      let w = arguments_weight args (Finish (Call p fits e args) ∷ m.work) in
      (omega arith, (omega arith, arguments_within args (Finish (Call p fits e args) ∷ m.work) (omega arith, h.1)))
  evaluate_falls (Library p service args) m = λ h.
      let w = arguments_weight args (Finish (Library p service args) ∷ m.work) in
      (omega arith, arguments_within args (Finish (Library p service args) ∷ m.work) (omega arith, h.1))
  evaluate_falls (Variable p x) m = λ h. (omega arith, h.1)
  evaluate_falls (Local p n) m = λ h. (omega arith, h.1)
  evaluate_falls (Object p object permissions) m = λ h. (omega arith, h.1)
  evaluate_falls (Function p f) m = λ h. (omega arith, h.1)
  evaluate_falls (Deref p e) m = λ h. (omega arith, (omega arith, (omega arith, h.1)))
  evaluate_falls (Member p offset e) m = λ h. (omega arith, (omega arith, (omega arith, h.1)))

  designate_falls : (e : Ex) (m : Moment M) → Lessens (Designate e) m (designate ops funs e m)
  designate_falls (Variable p x) m = λ h. (omega arith, h.1)
  designate_falls (Local p n) m = λ h. (omega arith, h.1)
  designate_falls (Object p object permissions) m = λ h. (omega arith, h.1)
  designate_falls (Function p f) m = λ h. (omega arith, h.1)
  designate_falls (Deref p e) m = λ h. (omega arith, (omega arith, (omega arith, h.1)))
  designate_falls (Member p offset e) m = λ h. (omega arith, (omega arith, (omega arith, h.1)))
  designate_falls (Aggregate e) m = λ h. (omega arith, (omega arith, h.1))
  designate_falls (Conditional p k c a b) m = λ h. (omega arith, (omega arith, (omega arith, h.1)))
  designate_falls (Comma a b) m = λ h. (omega arith, (omega arith, (omega arith, (omega arith, h.1))))
  designate_falls (Copy p bytes unit a b) m = λ h. (omega arith, (omega arith, (omega arith, (omega arith, h.1))))
  designate_falls _ m = λ h. (omega arith, h.1)

  -- ---- calls

  opened_falls : (first : Bool) (f : ℕ) (o : Option Fun) → BodyFits most o → (vs : List Value) (m : Moment M) →
      Falls (Within m.work) (by_turns most m.now.left + (suc most + work_weight most m.work))
      (opened ops funs first f o vs m)
  opened_falls first f None b vs m =
      falls_by 0 _ _ _ (steady_turn_behind most ops first) m (λ _ t. Goes (with_value nothing t))
      (λ x n le h. (omega arith, h))
  opened_falls first f (Some g) b vs m =
      falls_by 0 _ _ _ (steady_bind most _ _ (steady_frame most ops (ops.enter f m.now.frame) f g)
      (λ _. steady_pass most ops g.name g.params vs)) (record m { callers = caller_of m.now ∷ m.callers })
      (λ _ t. Goes (machine.two (Execute g.body) (Leave_function first g) t))
      (λ x n le h. (omega arith, (omega arith, (omega arith, h))))

  closed_falls : (first : Bool) (g : Fun) (v : Value) (cs : List Caller) (m : Moment M) →
      Falls (Within m.work) (suc (by_turns most m.now.left + work_weight most m.work)) (closed ops funs first g v cs m)
  closed_falls first g v [] m =
      falls_by 0 _ _ _ (steady_bind most _ _ (steady_close most ops g) (λ _. steady_turn_behind most ops first)) m
      (λ _ t. Goes (with_value v t)) (λ x n le h. (omega arith, h))
  closed_falls first g v (c ∷ cs) m =
      falls_by 0 _ _ _ (steady_bind most _ _ (steady_close most ops g)
      (λ _. steady_bind most (back c) _ (steady_back most ops c) (λ _. steady_turn_behind most ops first)))
      (record m { callers = cs })
      (λ _ t. Goes (with_value v t)) (λ x n le h. (omega arith, h))

  call_falls : (p : Pos) (fits : List Bool) (e : Ex) (args : Exs) (m : Moment M) →
      Lessens (Finish (Call p fits e args)) m (finish_item ops funs (Call p fits e args) m)
  call_falls p fits e args m =
      falls_by most _ _ _ (spends_bind most 0 most most _ _ (omega arith)
      (steady_called most ops p fits (first_of (beyond (count_of args) m.values)))
      (λ f. spends_bind most most 0 most _ _ (omega arith) (spends_turn most) (λ _. steady_give most f)))
      (record m { values = behind (beyond (count_of args) m.values) })
      (λ f t. opened ops funs false f (slice_get funs f) (turned (count_of args) m.values []) t)
      (λ f n le. weaker _ _ _ _ (opened ops funs false f (slice_get funs f) (turned (count_of args) m.values [])
      (record m { values = behind (beyond (count_of args) m.values); now = n })) (λ h. h.1) (omega arith)
      (opened_falls false f (slice_get funs f) (body_fits most funs f (omega arith))
      (turned (count_of args) m.values []) (record m
      { values = behind (beyond (count_of args) m.values); now = n })))

  serve_falls : (e : Ex) (p : Pos) (service : Service) (vs : List Value) (m : Moment M) →
      Lessens (Finish e) m (machine.serve ops funs p service vs m)
  serve_falls e p Put_char vs m = λ h. (omega arith, h.1)
  serve_falls e p Get_char vs m = λ b h. (omega arith, h.1)
  serve_falls e p Malloc vs m =
      falls_by 0 _ _ _ (steady_allocate most ops p (number_of (first_of vs))) m (λ v t. Goes (with_value v t))
      (λ x n le h. (omega arith, h.1))
  serve_falls e p Exit vs m = ((λ h. cc), (λ h. cc))
  serve_falls e p Address vs m =
      falls_by 0 _ _ _ (steady_ask most p (λ s. on_ok ops (λ a. Ok (value.Int a)) (ops.address s (first_of vs)))) m
      (λ v t. Goes (with_value v t)) (λ x n le h. (omega arith, h.1))
  serve_falls e p (Bounds exact) vs m =
      falls_by 0 _ _ _ (steady_ask most p (λ s. ops.narrow s (first_of vs) (number_of (second_of vs)) exact)) m
      (λ v t. Goes (with_value v t)) (λ x n le h. (omega arith, h.1))
  serve_falls e p (Works work) vs m =
      falls_by 0 _ _ _ (steady_ask most p (λ s. ops.work s work (first_of vs) (second_of vs))) m
      (λ v t. Goes (with_value v t)) (λ x n le h. (omega arith, h.1))

  finished_falls : (e : Ex) (m : Moment M) → Lessens (Finish e) m (finished ops funs e m)
  finished_falls e m =
      falls_by 0 _ _ _ (steady_finish most ops funs e m.values m.places)
      (record m { values = values_behind ops funs e m.values; places = places_behind ops funs e m.places })
      (λ v t. Goes (with_value v t)) (λ x n le h. (omega arith, h.1))

  finish_falls : (e : Ex) (m : Moment M) → Lessens (Finish e) m (finish_item ops funs e m)
  finish_falls (Call p fits e args) m = call_falls p fits e args m
  finish_falls (Library p service args) m =
      serve_falls (Library p service args) p service (turned (count_of args) m.values [])
      (record m { values = beyond (count_of args) m.values })
  finish_falls e m = finished_falls e m

  finish_place_falls : (e : Ex) (m : Moment M) → Lessens (Finish_place e) m (finish_place ops funs e m)
  finish_place_falls (Member p offset e) m =
      falls_by 0 _ _ _ (steady_ask most p (λ s. ops.offset s (capability_of (first_place m.places)) offset))
      (less_place m) (λ v t. Goes (with_place (At p v) t)) (λ x n le h. (omega arith, h.1))
  finish_place_falls (Copy p bytes unit a b) m =
      falls_by 0 _ _ _ (steady_copy most ops p bytes unit (first_place m.places) (first_place (behind m.places)))
      (less_place (less_place m)) (λ _ t. Goes (with_place (first_place (behind m.places)) t))
      (λ x n le h. (omega arith, h.1))
  finish_place_falls _ m = λ h. (omega arith, h.1)

  -- ---- choices

  and_falls : (p : Pos) (j k : Kind) (a b : Ex) (m : Moment M) (c : Bool) (n : Now M) →
      by_turns most n.left + 0 ≤ by_turns most m.now.left →
      Fewer (Within (Choose (And p j k a b) ∷ m.work)) (with_item (Choose (And p j k a b)) m)
      (chosen ops funs (And p j k a b) c (record m { values = behind m.values; now = n }))
  and_falls p j k a b m true n le = λ h. (omega arith, (omega arith, (omega arith, h.1)))
  and_falls p j k a b m false n le = λ h. (omega arith, h.1)

  or_falls : (p : Pos) (j k : Kind) (a b : Ex) (m : Moment M) (c : Bool) (n : Now M) →
      by_turns most n.left + 0 ≤ by_turns most m.now.left →
      Fewer (Within (Choose (Or p j k a b) ∷ m.work)) (with_item (Choose (Or p j k a b)) m)
      (chosen ops funs (Or p j k a b) c (record m { values = behind m.values; now = n }))
  or_falls p j k a b m true n le = λ h. (omega arith, h.1)
  or_falls p j k a b m false n le = λ h. (omega arith, (omega arith, (omega arith, h.1)))

  conditional_falls : (p : Pos) (k : Kind) (e a b : Ex) (m : Moment M) (c : Bool) (n : Now M) →
      by_turns most n.left + 0 ≤ by_turns most m.now.left →
      Fewer (Within (Choose (Conditional p k e a b) ∷ m.work)) (with_item (Choose (Conditional p k e a b)) m)
      (chosen ops funs (Conditional p k e a b) c (record m { values = behind m.values; now = n }))
  conditional_falls p k e a b m true n le = λ h. (omega arith, (omega arith, h.1))
  conditional_falls p k e a b m false n le = λ h. (omega arith, (omega arith, h.1))

  choose_falls : (e : Ex) (m : Moment M) → Lessens (Choose e) m (choose_item ops funs e m)
  choose_falls (And p j k a b) m =
      falls_by 0 _ _ _ (steady_test most ops p j (first_of m.values)) (less_value m)
      (λ c t. Goes (chosen ops funs (And p j k a b) c t)) (λ c n le. and_falls p j k a b m c n le)
  choose_falls (Or p j k a b) m =
      falls_by 0 _ _ _ (steady_test most ops p j (first_of m.values)) (less_value m)
      (λ c t. Goes (chosen ops funs (Or p j k a b) c t)) (λ c n le. or_falls p j k a b m c n le)
  choose_falls (Conditional p k e a b) m =
      falls_by 0 _ _ _ (steady_test most ops p k (first_of m.values)) (less_value m)
      (λ c t. Goes (chosen ops funs (Conditional p k e a b) c t)) (λ c n le. conditional_falls p k e a b m c n le)
  choose_falls _ m = λ h. (omega arith, h.1)

  -- one item or another in place of an item
  one_of_falls : (i a b : Item) (m t : Moment M) (c : Bool) → t.work ≡ m.work →
      by_turns most t.now.left ≤ by_turns most m.now.left → item_weight most a + 1 ≤ item_weight most i →
      item_weight most b + 1 ≤ item_weight most i →
      (item_bound i ≤ most → item_bound a ≤ most) → (item_bound i ≤ most → item_bound b ≤ most) →
      Fewer (Within (i ∷ m.work)) (with_item i m) (if c then machine.one a t else machine.one b t)
  one_of_falls i a b m t true same le wa wb ba bb = λ h. (rw same (omega arith), (ba h.0, rw same h.1))
  one_of_falls i a b m t false same le wa wb ba bb = λ h. (rw same (omega arith), (bb h.0, rw same h.1))

  choose_place_falls : (e : Ex) (m : Moment M) → Lessens (Choose_place e) m (choose_place ops funs e m)
  choose_place_falls (Conditional p k e a b) m =
      falls_by 0 _ _ _ (steady_test most ops p k (first_of m.values)) (less_value m)
      (λ c t. Goes (if c then machine.one (Designate a) t else machine.one (Designate b) t))
      (λ c n le. one_of_falls (Choose_place (Conditional p k e a b)) (Designate a) (Designate b) m
      (record m { values = behind m.values; now = n }) c refl (omega arith) (omega arith) (omega arith)
      (λ h. omega arith) (λ h. omega arith))
  choose_place_falls _ m = λ h. (omega arith, h.1)

  decide_falls : (e : Ex) (m : Moment M) → Lessens (Decide e) m (decide ops funs e m)
  decide_falls (And p j k a b) m =
      falls_by 0 _ _ _ (steady_test most ops p k (first_of m.values)) (less_value m)
      (λ c t. Goes (with_value (truth c) t)) (λ c n le h. (omega arith, h.1))
  decide_falls (Or p j k a b) m =
      falls_by 0 _ _ _ (steady_test most ops p k (first_of m.values)) (less_value m)
      (λ c t. Goes (with_value (truth c) t)) (λ c n le h. (omega arith, h.1))
  decide_falls _ m = λ h. (omega arith, h.1)

  -- ---- statements

  jumped_falls : (f : Flow) (is : List Item) (m : Moment M) →
      Falls (Within is) (suc (by_turns most m.now.left + work_weight most is)) (jumped ops funs f is m)
  jumped_falls flow.Goes is m = λ h. (omega arith, h)
  jumped_falls Breaks [] m = λ h. (omega arith, h)
  jumped_falls Continues [] m = λ h. (omega arith, h)
  jumped_falls (Returns v) [] m = λ h. (omega arith, h)
  jumped_falls Breaks (Leave ds ∷ is) m =
      falls_by 0 _ _ _ (steady_leave most ops ds) m (λ _ t. jumped ops funs Breaks is t)
      (λ x n le. weaker _ _ _ _ (jumped ops funs Breaks is (record m { now = n })) (λ h. h.1) (omega arith)
      (jumped_falls Breaks is (record m { now = n })))
  jumped_falls Continues (Leave ds ∷ is) m =
      falls_by 0 _ _ _ (steady_leave most ops ds) m (λ _ t. jumped ops funs Continues is t)
      (λ x n le. weaker _ _ _ _ (jumped ops funs Continues is (record m { now = n })) (λ h. h.1) (omega arith)
      (jumped_falls Continues is (record m { now = n })))
  jumped_falls (Returns v) (Leave ds ∷ is) m =
      falls_by 0 _ _ _ (steady_leave most ops ds) m (λ _ t. jumped ops funs (Returns v) is t)
      (λ x n le. weaker _ _ _ _ (jumped ops funs (Returns v) is (record m { now = n })) (λ h. h.1) (omega arith)
      (jumped_falls (Returns v) is (record m { now = n })))
  jumped_falls Breaks (Again l ∷ is) m = λ h. (omega arith, h.1)
  jumped_falls Breaks (Switch_end ∷ is) m = λ h. (omega arith, h.1)
  jumped_falls Continues (Again l ∷ is) m = λ h. (omega arith, h)
  jumped_falls Breaks (Leave_function first g ∷ is) m = λ h. (omega arith, h)
  jumped_falls Continues (Leave_function first g ∷ is) m = λ h. (omega arith, h)
  jumped_falls (Returns v) (Leave_function first g ∷ is) m =
      weaker _ _ _ _ (closed ops funs first g v m.callers (record m { work = is })) (λ h. h.1) (omega arith)
      (closed_falls first g v m.callers (record m { work = is }))
  jumped_falls Breaks (i ∷ is) m =
      weaker _ _ _ _ (jumped ops funs Breaks is m) (λ h. h.1) (omega arith) (jumped_falls Breaks is m)
  jumped_falls Continues (i ∷ is) m =
      weaker _ _ _ _ (jumped ops funs Continues is m) (λ h. h.1) (omega arith) (jumped_falls Continues is m)
  jumped_falls (Returns v) (i ∷ is) m =
      weaker _ _ _ _ (jumped ops funs (Returns v) is m) (λ h. h.1) (omega arith) (jumped_falls (Returns v) is m)

  jump_falls : (a : St) (f : Flow) (m : Moment M) → 1 ≤ st_size a → Lessens (Execute a) m (jumped ops funs f m.work m)
  jump_falls a f m le = weaker _ _ _ _ (jumped ops funs f m.work m) (λ h. h.1) (omega arith) (jumped_falls f m.work m)

  execute_falls : (a : St) (m : Moment M) → Lessens (Execute a) m (execute ops funs a m)
  execute_falls (Do e) m = λ h. (omega arith, (omega arith, (omega arith, h.1)))
  execute_falls (Give x e) m = λ h. (omega arith, (omega arith, (omega arith, h.1)))
  execute_falls (Init p local offset k e) m = λ h. (omega arith, (omega arith, (omega arith, h.1)))
  execute_falls (Fill p local offset bytes unit e) m = λ h. (omega arith, (omega arith, (omega arith, h.1)))
  execute_falls (Block ds ss) m =
      falls_by 0 _ _ _ (steady_enter most ops ds) m (λ _ t. Goes (machine.two (Rest ss) (Leave ds) t))
      (λ x n le h. let b = h.0 in (omega arith, (omega arith, (omega arith, h.1))))
  execute_falls (If p k e a b) m = λ h. let b = h.0 in (omega arith, (omega arith, (omega arith, h.1)))
  execute_falls (While p k e b) m = λ h. let c = h.0 in (omega arith, (omega arith, h.1))
  execute_falls (Do_while p k b e) m = λ h. let c = h.0 in (omega arith, (omega arith, (omega arith, h.1)))
  execute_falls (For ds first t u b) m =
      falls_by 0 _ _ _ (steady_enter most ops ds) m
      (λ _ r. Goes (machine.three (Rest first) (Test (Before t u b)) (Leave ds) r))
      (λ x n le h. let c = h.0 in (omega arith, (omega arith, (omega arith, (omega arith, h.1)))))
  execute_falls (Switch p k e ds ls ss) m = λ h. let c = h.0 in (omega arith, (omega arith, (omega arith, h.1)))
  execute_falls Break m = jump_falls Break Breaks m (omega arith)
  execute_falls Continue m = jump_falls Continue Continues m (omega arith)
  execute_falls (Return None) m = jump_falls (Return None) (Returns nothing) m (omega arith)
  execute_falls (Return (Some e)) m = λ h. (omega arith, (omega arith, (omega arith, h.1)))
  execute_falls Empty m = λ h. (omega arith, h.1)

  proceed_falls : (ss : Sts) (m : Moment M) → Lessens (Rest ss) m (proceed ops funs ss m)
  proceed_falls End m = λ h. (omega arith, h.1)
  proceed_falls (Seq a ss) m = λ h. let b = h.0 in (omega arith, (omega arith, (omega arith, h.1)))

  initialize_falls : (a : St) (m : Moment M) → Lessens (Initialize a) m (initialize ops funs a m)
  initialize_falls (Give x e) m =
      falls_by 0 _ _ _ (steady_set_variable most x (Some (first_of m.values))) (less_value m) (λ _ t. Goes t)
      (λ x n le h. (omega arith, h.1))
  initialize_falls (Init p local offset k e) m =
      falls_by 0 _ _ _ (steady_bind most _ _ (steady_part_of_local most ops p local offset)
      (λ to. steady_store most ops k to (first_of m.values))) (less_value m) (λ _ t. Goes t)
      (λ x n le h. (omega arith, h.1))
  initialize_falls (Fill p local offset bytes unit e) m =
      falls_by 0 _ _ _ (steady_bind most _ _ (steady_part_of_local most ops p local offset)
      (λ to. steady_copy most ops p bytes unit (first_place m.places) to)) (less_place m) (λ _ t. Goes t)
      (λ x n le h. (omega arith, h.1))
  initialize_falls _ m = λ h. (omega arith, h.1)

  branch_falls : (a : St) (m : Moment M) → Lessens (Branch a) m (branch ops funs a m)
  branch_falls (If p k e a b) m =
      falls_by 0 _ _ _ (steady_test most ops p k (first_of m.values)) (less_value m)
      (λ c t. Goes (if c then machine.one (Execute a) t else machine.one (Execute b) t))
      (λ c n le. one_of_falls (Branch (If p k e a b)) (Execute a) (Execute b) m
      (record m { values = behind m.values; now = n }) c refl (omega arith) (omega arith) (omega arith)
      (λ h. omega arith) (λ h. omega arith))
  branch_falls _ m = λ h. (omega arith, h.1)

  at_test_falls : (l : Loop) (m : Moment M) → Lessens (Test l) m (at_test ops funs l m)
  at_test_falls (Before None u b) m = λ h. let c = h.0 in (omega arith, (omega arith, (omega arith, h.1)))
  at_test_falls (Before (Some t) u b) m = λ h. let c = h.0 in (omega arith, (omega arith, (omega arith, h.1)))
  at_test_falls (Behind p k e b) m = λ h. let c = h.0 in (omega arith, (omega arith, (omega arith, h.1)))

  turned_falls : (h : Type 0) (n : ℕ) (is : List Item) (m : Moment M) →
      (h → (work_weight most is < n + most) × Within is) →
      Falls h (by_turns most m.now.left + n) (turned_to ops funs is m)
  turned_falls h n is m f =
      falls_by most _ _ _ (spends_turn most) m (λ _ t. Goes (record t { work = is }))
      (λ x r le q. let g = (f q).0 in (omega arith, (f q).1))

  before_falls : (t : Pos × Kind × Ex) (u : Option Ex) (b : St) (m : Moment M) (c : Bool) (n : Now M) →
      by_turns most n.left + 0 ≤ by_turns most m.now.left →
      Fewer (Within (Tested (Before (Some t) u b) ∷ m.work)) (with_item (Tested (Before (Some t) u b)) m)
      (if c then machine.two (Execute b) (Again (Before (Some t) u b))
      (record m { values = behind m.values; now = n }) else record m { values = behind m.values; now = n })
  before_falls t u b m true n le = λ h. let c = h.0 in (omega arith, (omega arith, (omega arith, h.1)))
  before_falls t u b m false n le = λ h. (omega arith, h.1)

  behind_falls : (p : Pos) (k : Kind) (e : Ex) (b : St) (m : Moment M) (c : Bool) (n : Now M) →
      by_turns most n.left + 0 ≤ by_turns most m.now.left →
      Falls (Within (Tested (Behind p k e b) ∷ m.work)) (with_item (Tested (Behind p k e b)) m)
      (if c then turned_to ops funs (Execute b ∷ Again (Behind p k e b) ∷ m.work)
      (record m { values = behind m.values; now = n }) else Goes (record m { values = behind m.values; now = n }))
  behind_falls p k e b m true n le =
      weaker _ _ _ _ (turned_to ops funs (Execute b ∷ Again (Behind p k e b) ∷ m.work)
      (record m { values = behind m.values; now = n })) (λ h. h) (omega arith)
      (turned_falls (Within (Tested (Behind p k e b) ∷ m.work)) (1 + work_weight most m.work)
      (Execute b ∷ Again (Behind p k e b) ∷ m.work) (record m { values = behind m.values; now = n })
      (λ h. let c = h.0 in (omega arith, (omega arith, (omega arith, h.1)))))
  behind_falls p k e b m false n le = λ h. (omega arith, h.1)

  tested_falls : (l : Loop) (m : Moment M) → Lessens (Tested l) m (tested ops funs l m)
  tested_falls (Before None u b) m = λ h. let c = h.0 in (omega arith, (omega arith, (omega arith, h.1)))
  tested_falls (Before (Some t) u b) m =
      falls_by 0 _ _ _ (steady_test most ops t.0 t.1 (first_of m.values)) (less_value m)
      (λ c r. Goes (if c then machine.two (Execute b) (Again (Before (Some t) u b)) r else r))
      (λ c n le. before_falls t u b m c n le)
  tested_falls (Behind p k e b) m =
      falls_by 0 _ _ _ (steady_test most ops p k (first_of m.values)) (less_value m)
      (λ c r. if c then turned_to ops funs (Execute b ∷ Again (Behind p k e b) ∷ r.work) r else Goes r)
      (λ c n le. behind_falls p k e b m c n le)

  again_falls : (l : Loop) (m : Moment M) → Lessens (Again l) m (again ops funs l m)
  again_falls (Before t None b) m =
      turned_falls (Within (Again (Before t None b) ∷ m.work)) _ (Test (Before t None b) ∷ m.work) m
      (λ h. let c = h.0 in (omega arith, (omega arith, h.1)))
  again_falls (Before t (Some e) b) m =
      λ h. let c = h.0 in (omega arith, (omega arith, (omega arith, (omega arith, h.1))))
  again_falls (Behind p k e b) m = λ h. let c = h.0 in (omega arith, (omega arith, h.1))

  turn_falls : (l : Loop) (m : Moment M) → Lessens (Turn l) m (turned_to ops funs (Test l ∷ m.work) m)
  turn_falls (Before t u b) m =
      turned_falls (Within (Turn (Before t u b) ∷ m.work)) _ (Test (Before t u b) ∷ m.work) m
      (λ h. let c = h.0 in (omega arith, (omega arith, h.1)))
  turn_falls (Behind p k e b) m =
      turned_falls (Within (Turn (Behind p k e b) ∷ m.work)) _ (Test (Behind p k e b) ∷ m.work) m
      (λ h. let c = h.0 in (omega arith, (omega arith, h.1)))

  to_label_falls : (p : Pos) (k : Kind) (e : Ex) (ds : List Declared) (ss : Sts) (ls : List Label) (m : Moment M)
      (o : Option ℕ) (n : Now M) → by_turns most n.left + 0 ≤ by_turns most m.now.left →
      Fewer (Within (Choose_label (Switch p k e ds ls ss) ∷ m.work))
      (with_item (Choose_label (Switch p k e ds ls ss)) m)
      (to_label ops funs ss ds o (record m { values = behind m.values; now = n }))
  to_label_falls p k e ds ss ls m None n le = λ h. (omega arith, (omega arith, h.1))
  to_label_falls p k e ds ss ls m (Some j) n le =
      λ h. let c = h.0 in let b = behind_smaller ss j in (omega arith, (omega arith, (omega arith, (omega arith, h.1))))

  label_falls : (a : St) (m : Moment M) → Lessens (Choose_label a) m (choose_label ops funs a m)
  label_falls (Switch p k e ds ls ss) m =
      falls_by 0 _ _ _ (steady_bind most _ _ (steady_enter most ops ds)
      (λ _. steady_find_label most ops p k (first_of m.values) ls (default_of ls))) (less_value m)
      (λ o t. Goes (to_label ops funs ss ds o t)) (λ o n le. to_label_falls p k e ds ss ls m o n le)
  label_falls _ m = λ h. (omega arith, h.1)

  -- ---- acts

  act_on_falls : (i : Item) (m : Moment M) → Lessens i m (act_on ops funs i m)
  act_on_falls (Evaluate e) m = evaluate_falls e m
  act_on_falls (Designate e) m = designate_falls e m
  act_on_falls Drop m = λ h. (omega arith, h.1)
  act_on_falls (Finish e) m = finish_falls e m
  act_on_falls (Finish_place e) m = finish_place_falls e m
  act_on_falls (Choose e) m = choose_falls e m
  act_on_falls (Choose_place e) m = choose_place_falls e m
  act_on_falls (Decide e) m = decide_falls e m
  act_on_falls (Begin f) m =
      weaker _ _ _ _ (opened ops funs true f (slice_get funs f) [] m) (λ h. h.1) (omega arith)
      (opened_falls true f (slice_get funs f) (body_fits most funs f (omega arith)) [] m)
  act_on_falls (Leave_function first g) m =
      falls_by 0 _ _ _ (steady_at_end most ops g.name g.at_end) m (λ v t. closed ops funs first g v t.callers t)
      (λ v n le. weaker _ _ _ _ (closed ops funs first g v m.callers (record m { now = n })) (λ h. h.1) (omega arith)
      (closed_falls first g v m.callers (record m { now = n })))
  act_on_falls (Execute a) m = execute_falls a m
  act_on_falls (Rest ss) m = proceed_falls ss m
  act_on_falls (Initialize a) m = initialize_falls a m
  act_on_falls (Branch a) m = branch_falls a m
  act_on_falls (Test l) m = at_test_falls l m
  act_on_falls (Tested l) m = tested_falls l m
  act_on_falls (Again l) m = again_falls l m
  act_on_falls (Turn l) m = turn_falls l m
  act_on_falls (Choose_label a) m = label_falls a m
  act_on_falls Switch_end m = λ h. (omega arith, h.1)
  act_on_falls (Leave ds) m =
      falls_by 0 _ _ _ (steady_leave most ops ds) m (λ _ t. Goes t) (λ x n le h. (omega arith, h.1))
  act_on_falls Give_back m =
      weaker _ _ _ _ (jumped ops funs (Returns (first_of m.values)) m.work (less_value m)) (λ h. h.1) (omega arith)
      (jumped_falls (Returns (first_of m.values)) m.work (less_value m))

  act_of_falls : (is : List Item) (m : Moment M) →
      Falls (Within is) (by_turns most m.now.left + work_weight most is) (act_of ops funs is m)
  act_of_falls [] m = ((λ h. cc), (λ h. cc))
  act_of_falls (i ∷ is) m = act_on_falls i (record m { work = is })

  pub falls : (m : Moment M) → Falls (Within m.work) (acts_left funs m) (act ops funs m)
  unfolding act
  falls m = act_of_falls m.work m

  -- ---- the acts of a run

  fewer_by : (h : Type 0) (n : ℕ) (a : Act (Moment M) Ending) (before after : Seen) (s s' : Moment M) → h →
      Falls h n a → Acted limits a before after s s' None → (acts_left funs s' < n) × Within s'.work
  fewer_by h n (Goes t) before after s s' q f acted =
      subst (λ t. (acts_left funs t < n) × Within t.work) (sym acted.1) (f q)
  fewer_by h n (Ends e) before after s s' q f acted = absurd (let e : None ≡ Some e = acted.0 in cc)
  fewer_by h n (Puts b t) before after s s' q f (inl acted) =
      subst (λ t. (acts_left funs t < n) × Within t.work) (sym acted.1) (f q)
  fewer_by h n (Puts b t) before after s s' q f (inr acted) =
      absurd (let e : None ≡ Some limits.write_fault = acted.0 in cc)
  fewer_by h n (Reads to) before after s s' q f (inl acted) =
      subst (λ t. (acts_left funs t < n) × Within t.work) (sym acted.2) (f acted.0 q)
  fewer_by h n (Reads to) before after s s' q f (inr acted) =
      absurd (let e : None ≡ Some limits.read_fault = acted.0 in cc)

  pub fewer : (before after : Seen) (s s' : Moment M) → Within s.work →
      Acted limits (act ops funs s) before after s s' None → (acts_left funs s' < acts_left funs s) × Within s'.work
  fewer before after s s' q acted =
      fewer_by (Within s.work) (acts_left funs s) (act ops funs s) before after s s' q (falls s) acted

  same_end : (e f : Ending) → ◌≡◌ {A = Act (Moment M) Ending} (Ends e) (Ends f) → e ≡ f
  same_end e f h = cc

  own_by : (h : Type 0) (n : ℕ) (a : Act (Moment M) Ending) → Falls h n a →
      (a ≢ Ends ending.ReadFault) × (a ≢ Ends ending.WriteFault)
  own_by h n (Goes t) f = ((λ h. cc), (λ h. cc))
  own_by h n (Puts b t) f = ((λ h. cc), (λ h. cc))
  own_by h n (Reads to) f = ((λ h. cc), (λ h. cc))
  own_by h n (Ends e) f = ((λ q. f.0 (same_end e ending.ReadFault q)), (λ q. f.1 (same_end e ending.WriteFault q)))

  pub own_endings : HasOwnEndings limits (act ops funs)
  own_endings = record {
    read = λ s. (own_by (Within s.work) (acts_left funs s) (act ops funs s) (falls s)).0;
    write = λ s. (own_by (Within s.work) (acts_left funs s) (act ops funs s) (falls s)).1;
    apart = λ h. cc;
    steps_read = λ h. cc;
    steps_write = λ h. cc;
  }
