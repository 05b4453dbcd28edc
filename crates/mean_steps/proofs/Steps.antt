-- Each act keeps what the work means.
use mathlib.Core.Path.{fun_ext}
use Rattle.std.proofs.Common.{◌≡◌, ℕ, zero, suc, ◌+◌, Bool, true, false, List, [], ◌∷◌, ◌++◌, Option, Some, None}
use Rattle.std.proofs.Common.{Result, Ok, refl, sym, ◌∙◌, ap, arith}
use Rattle.std.proofs.lemmas.List.{append-nil}
use Rattle.std.specs.Prelude.{slice_get, length, if◌then◌else◌}
use Rattle.ck_base.specs.Runs.{Act, Goes, with_put, with_read}
use Rattle.ck_base.specs.World.{World, Done, fails_after}
use Rattle.ck_base.specs.declared.positions.Pos.{Pos}
use Rattle.obj_mem.specs.Values.{Value}
use Rattle.obj_mem.specs.Values as value
use Rattle.obj_mem.specs.declared.ending.Ending.{Ending}
use Rattle.obj_mem.specs.declared.ending.Ending.TheVariants as ending
use Rattle.obj_mem.specs.declared.ending.Fault.{Fault}
use Rattle.cheri_c_sem.specs.Kinds.{Kind, Plain, Capability, nothing, number_of, truth}
use Rattle.cheri_c_sem.specs.Operations.{Operations, on_ok, convert_by, compare_by}
use Rattle.cheri_c_sem.specs.Steps.{State, Fate, Then, ◌>>=◌, ◌>>◌, give, ends, answer, ask, choose, turn, byte_or_end}
use Rattle.cheri_c_sem.specs.Tree.{Operation, Whole, Derived, Moved, Apart, Sign, Positive, Negative, Complement}
use Rattle.cheri_c_sem.specs.Tree.{Service, Put_char, Get_char, Malloc, Exit, Address, Bounds, Works, Ex, Load}
use Rattle.cheri_c_sem.specs.Tree.{Pointer_to, Convert, Unary, Not, Binary, Compare, And, Or, Conditional, Assign, Copy}
use Rattle.cheri_c_sem.specs.Tree.{Compound, Call, Library, Variable, Member, Exs, Nil, Cons, Declared, St, Give, Init}
use Rattle.cheri_c_sem.specs.Tree.{Fill, Block, If, Do_while, For, Switch, Break, Continue, Return, Sts, End, Seq, Fun}
use Rattle.cheri_c_sem.specs.Meaning.{Place, At, capability_of, test, first_of, second_of, operate_by, sign_by, serve}
use Rattle.cheri_c_sem.specs.Meaning.{value_of, place_of, values_of}
use Rattle.cheri_c_sem.specs.Statements.{Flow, Breaks, Continues, Returns, after, after_body, after_switch, default_of}
use Rattle.cheri_c_sem.specs.Statements.{leave, exec, execs, execs_from}
use Rattle.cheri_c_sem.specs.Statements as flow
use Rattle.cheri_c_sem.specs.Calls.{close, in_frame, result_of}
use Rattle.cheri_c_sem.proofs.Turns.{call_unfolds, do_unfolds, for_unfolds}
use Rattle.mean_steps.specs.Parts.{Now, Came, On, Over, Part, next_of}
use Rattle.mean_steps.specs.Parts as part
use Rattle.mean_steps.specs.Machine as machine
use Rattle.mean_steps.specs.Machine.{Loop, Before, Behind, Item, Evaluate, Designate, Drop, Finish, Finish_place}
use Rattle.mean_steps.specs.Machine.{Choose, Choose_place, Decide, Begin, Leave_function, Execute, Rest, Initialize}
use Rattle.mean_steps.specs.Machine.{Branch, Test, Tested, Again, Turn, Choose_label, Switch_end, Leave, Give_back}
use Rattle.mean_steps.specs.Machine.{Caller, Moment, no_world, behind, first_place, turned, beyond, count_of}
use Rattle.mean_steps.specs.Machine.{before_arguments, execs_behind, with_value, with_place, less_value, less_place}
use Rattle.mean_steps.specs.Machine.{doing, done_in, caller_of, back, turn_behind, evaluate, designate, finish}
use Rattle.mean_steps.specs.Machine.{values_behind, places_behind, finished, opened, closed, finish_item, finish_place}
use Rattle.mean_steps.specs.Machine.{chosen, choose_item, choose_place, decide, jumped, execute, proceed, initialize}
use Rattle.mean_steps.specs.Machine.{branch, at_test, turned_to, tested, again, to_label, choose_label, act_on, act_of}
use Rattle.mean_steps.specs.Machine.{act}
use Rattle.mean_steps.proofs.Alike.{state_of, follow, Alike, alike_give, alike_bind, alike_then, alike_answer}
use Rattle.mean_steps.proofs.Alike.{alike_turn, alike_ask, alike_set_variable, alike_load, alike_store, alike_copy}
use Rattle.mean_steps.proofs.Alike.{alike_point_to, alike_part_of_local, alike_test, alike_allocate, alike_enter}
use Rattle.mean_steps.proofs.Alike.{alike_leave, alike_find_label, alike_called, alike_frame, alike_pass, alike_at_end}
use Rattle.mean_steps.proofs.Alike.{alike_close}
use Rattle.mean_steps.proofs.Meant.{meant_call, finish_meant, values_left, place_meant, place_values, place_places}
use Rattle.mean_steps.proofs.Meant.{choose_meant, choose_place_meant, decide_meant, initialize_meant, initialize_values}
use Rattle.mean_steps.proofs.Meant.{initialize_places, branch_meant, for_loop, do_loop, again_meant, after_test}
use Rattle.mean_steps.proofs.Meant.{tested_meant, test_meant, label_meant, back_to, turn_to, closing, way, onward, ways}
use Rattle.mean_steps.proofs.Meant.{meant_of, acted}

ext : {A B C : Type 0} (f g : A → B → C) → ((x : A) (y : B) → f x y ≡ g x y) → f ≡ g
ext f g h = fun_ext (λ x. fun_ext (h x))

-- what follows may be said in other words
same_next : {M A : Type 0} (c : Then M A) (s : State M) (k l : A → State M → Fate) →
    ((x : A) (t : State M) → k x t ≡ l x t) → c s k ≡ c s l
same_next c s k l h = ap (c s) (ext k l h)

-- ---- arguments

-- values, the first one first, on others
abbrev pushed : List Value → List Value → List Value
pushed [] vs = vs
pushed (x ∷ xs) vs = pushed xs (x ∷ vs)

-- as many values as arguments
abbrev Matches : Exs → List Value → Type 0
Matches Nil [] = Unit {0}
Matches Nil (x ∷ xs) = ⊥
Matches (Cons e es) [] = ⊥
Matches (Cons e es) (x ∷ xs) = Matches es xs

turned_pushed : (es : Exs) (xs : List Value) → Matches es xs → (n : ℕ) (vs others : List Value) →
    turned (count_of es + n) (pushed xs vs) others ≡ turned n vs (xs ++ others)
turned_pushed Nil [] h n vs others = let e : 0 + n ≡ n = omega arith in rw e refl
turned_pushed Nil (x ∷ xs) h n vs others = absurd h
turned_pushed (Cons e es) [] h n vs others = absurd h
turned_pushed (Cons e es) (x ∷ xs) h n vs others =
    let e : suc (count_of es) + n ≡ count_of es + suc n = omega arith in
    rw e (turned_pushed es xs h (suc n) (x ∷ vs) others)

beyond_pushed : (es : Exs) (xs : List Value) → Matches es xs → (n : ℕ) (vs : List Value) →
    beyond (count_of es + n) (pushed xs vs) ≡ beyond n vs
beyond_pushed Nil [] h n vs = let e : 0 + n ≡ n = omega arith in rw e refl
beyond_pushed Nil (x ∷ xs) h n vs = absurd h
beyond_pushed (Cons e es) [] h n vs = absurd h
beyond_pushed (Cons e es) (x ∷ xs) h n vs =
    let e : suc (count_of es) + n ≡ count_of es + suc n = omega arith in rw e (beyond_pushed es xs h (suc n) (x ∷ vs))

all_turned : (es : Exs) (xs vs : List Value) → Matches es xs → turned (count_of es) (pushed xs vs) [] ≡ xs
all_turned es xs vs h = let e : count_of es ≡ count_of es + 0 = omega arith in
    ap (λ n. turned n (pushed xs vs) []) e ∙ (turned_pushed es xs h 0 vs [] ∙ append-nil xs)

all_beyond : (es : Exs) (xs vs : List Value) → Matches es xs → beyond (count_of es) (pushed xs vs) ≡ vs
all_beyond es xs vs h = let e : count_of es ≡ count_of es + 0 = omega arith in
    ap (λ n. beyond n (pushed xs vs)) e ∙ beyond_pushed es xs h 0 vs

module _ {M : Type 0} (ops : Operations M) (w : World) (funs : List Fun) where
  -- ---- parts

  abbrev K : Type 0 → Type 0
  K A = A → State M → Fate

  followed : {A : Type 0} (r : Came M A) (m : Moment M) (d : Done) (k : K A)
      (l : A → Moment M → Act (Moment M) Ending) →
      ((x : A) (n : Now M) → k x (state_of n d) ≡ acted ops w funs d (l x (record m { now = n }))) →
      follow r d k ≡ acted ops w funs d (done_in m l r)
  followed (On x n) m d k l h = h x n
  followed (Over e) m d k l h = refl

  -- an act that does what a word of the meaning does, and then what follows
  kept_by : {A : Type 0} (c : Then M A) (p : Part M A) → Alike c p →
      (m : Moment M) (d : Done) (k : K A) (l : A → Moment M → Act (Moment M) Ending) →
      ((x : A) (n : Now M) → k x (state_of n d) ≡ acted ops w funs d (l x (record m { now = n }))) →
      c (state_of m.now d) k ≡ acted ops w funs d (doing p m l)
  kept_by c p a m d k l h = a.at m.now d k ∙ followed (p m.now) m d k l h

  -- ---- expressions

  arguments_meant : (es : Exs) (is : List Item) (vs : List Value) (ps : List Place) (cs : List Caller) (s : State M) →
      (ways ops w funs (before_arguments es is)).onward vs ps cs s
      ≡ values_of ops w (meant_call ops w funs) es s (λ xs t. (ways ops w funs is).onward (pushed xs vs) ps cs t)
  arguments_meant Nil is vs ps cs s = refl
  arguments_meant (Cons e es) is vs ps cs s =
      same_next (value_of ops w (meant_call ops w funs) e) s _ _ (λ v t. arguments_meant es is (v ∷ vs) ps cs t)

  -- as many values come as there are arguments
  values_match : (es : Exs) (s : State M) (k l : K (List Value)) →
      ((xs : List Value) (t : State M) → Matches es xs → k xs t ≡ l xs t) →
      values_of ops w (meant_call ops w funs) es s k ≡ values_of ops w (meant_call ops w funs) es s l
  values_match Nil s k l h = h [] s tt
  values_match (Cons e es) s k l h =
      same_next (value_of ops w (meant_call ops w funs) e) s _ _
      (λ v t. values_match es t _ _ (λ xs u m. h (v ∷ xs) u m))

  call_meant : (p : Pos) (fits : List Bool) (e : Ex) (args : Exs) (m : Moment M) (d : Done) →
      value_of ops w (meant_call ops w funs) (Call p fits e args) (state_of m.now d)
      (λ v t. (ways ops w funs m.work).onward (v ∷ m.values) m.places m.callers t)
      ≡ acted ops w funs d (evaluate ops funs (Call p fits e args) m)
  call_meant p fits e args m d =
      same_next (value_of ops w (meant_call ops w funs) e) (state_of m.now d) _ _
      (λ c t. values_match args t _ _ (λ xs u h.
      let e = all_turned args xs (c ∷ m.values) h in
      let f = all_beyond args xs (c ∷ m.values) h in
      rw e (rw f refl))
      ∙ sym (arguments_meant args (Finish (Call p fits e args) ∷ m.work) (c ∷ m.values) m.places m.callers t))

  library_meant : (p : Pos) (service : Service) (args : Exs) (m : Moment M) (d : Done) →
      value_of ops w (meant_call ops w funs) (Library p service args) (state_of m.now d)
      (λ v t. (ways ops w funs m.work).onward (v ∷ m.values) m.places m.callers t)
      ≡ acted ops w funs d (evaluate ops funs (Library p service args) m)
  library_meant p service args m d =
      values_match args (state_of m.now d) _ _ (λ xs u h.
      let e = all_turned args xs m.values h in
      let f = all_beyond args xs m.values h in
      rw e (rw f refl))
      ∙ sym (arguments_meant args (Finish (Library p service args) ∷ m.work) m.values m.places m.callers
      (state_of m.now d))

  evaluate_kept : (e : Ex) (m : Moment M) (d : Done) →
      value_of ops w (meant_call ops w funs) e (state_of m.now d)
      (λ v t. (ways ops w funs m.work).onward (v ∷ m.values) m.places m.callers t)
      ≡ acted ops w funs d (evaluate ops funs e m)
  evaluate_kept (Call p fits e args) m d = call_meant p fits e args m d
  evaluate_kept (Library p service args) m d = library_meant p service args m d
  evaluate_kept _ m d = refl

  designate_kept : (e : Ex) (m : Moment M) (d : Done) →
      place_of ops w (meant_call ops w funs) e (state_of m.now d)
      (λ p t. (ways ops w funs m.work).onward m.values (p ∷ m.places) m.callers t)
      ≡ acted ops w funs d (designate ops funs e m)
  designate_kept (Variable p x) m d = refl
  designate_kept _ m d = refl

  -- ---- operations

  abbrev values_now : Moment M → List Item → Done → K Value
  values_now m is d = λ v t. (ways ops w funs is).onward (v ∷ m.values) m.places m.callers t

  ask_same : {A : Type 0} (p : Pos) (f g : M → Result A Fault) → ((m : M) → f m ≡ g m) → Alike (ask p f) (part.ask p g)
  ask_same p f g h = record {
    at = λ n d k. ap (λ r. answer p r (state_of n d) k) (h n.mem)
        ∙ (alike_answer p (g n.mem)).at n d k;
  }

  operate_any : (op : Operation) (m : M) (x y : Value) → operate_by ops w op m x y ≡ operate_by ops no_world op m x y
  operate_any (Whole op k count) m x y = refl
  operate_any (Derived op signed count right plain) m x y = refl
  operate_any (Moved size minus false index) m x y = refl
  operate_any (Moved size minus true index) m x y = refl
  operate_any (Apart size) m x y = refl

  sign_any : (sign : Sign) (k : Kind) (m : M) (x : Value) → sign_by ops w sign k m x ≡ sign_by ops no_world sign k m x
  sign_any Positive (Plain k) m x = refl
  sign_any Negative (Plain k) m x = refl
  sign_any Complement (Plain k) m x = refl
  sign_any Positive (Capability signed) m x = refl
  sign_any Negative (Capability signed) m x = refl
  sign_any Complement (Capability signed) m x = refl

  -- the value of an operation that is neither a call nor a library function
  operation_kept : (e : Ex) (m : Moment M) (d : Done) →
      Alike (finish_meant ops w funs e m.values m.places) (finish ops funs e m.values m.places) →
      finish_meant ops w funs e m.values m.places (state_of m.now d)
      (λ v t. (ways ops w funs m.work).onward (v ∷ values_behind ops funs e m.values)
      (places_behind ops funs e m.places) m.callers t) ≡ acted ops w funs d (finished ops funs e m)
  operation_kept e m d a = kept_by _ _ a (record m
      { values = values_behind ops funs e m.values; places = places_behind ops funs e m.places }) d _
      (λ v t. Goes (with_value v t)) (λ v n. refl)

  abbrev KeepsFinish : Ex → Moment M → Done → Type 0
  KeepsFinish e m d =
      finish_meant ops w funs e m.values m.places (state_of m.now d)
      (λ v t. (ways ops w funs m.work).onward (v ∷ values_left ops w funs e m.values)
      (places_behind ops funs e m.places) m.callers t) ≡ acted ops w funs d (finish_item ops funs e m)

  compound_alike : (p : Pos) (op : Operation) (kind computed : Kind) (old : Bool) (a b : Ex) (vs : List Value)
      (ps : List Place) → Alike (finish_meant ops w funs (Compound p op kind computed old a b) vs ps)
      (finish ops funs (Compound p op kind computed old a b) vs ps)
  compound_alike p op kind computed old a b vs ps =
      alike_bind _ _ _ _ (alike_load ops w kind (first_place ps))
      (λ x. alike_bind _ _ _ _ (alike_ask p (λ m. convert_by ops m kind computed x))
      (λ v. alike_bind _ _ _ _ (ask_same p _ (λ m. operate_by ops no_world op m v (first_of vs))
      (λ m. operate_any op m v (first_of vs)))
      (λ r. alike_bind _ _ _ _ (alike_ask p (λ m. convert_by ops m computed kind r))
      (λ z. alike_then _ _ _ _ (alike_store ops w kind (first_place ps) z) (alike_give (if old then x else z))))))

  put_kept : (fails : Bool) (b : ℕ) (v : Value) (m : Moment M) (d : Done) →
      choose fails (ends ending.WriteFault) (λ t k. k (tt {0}) (record t { done = with_put t.done b }))
      (state_of m.now d) (λ _ t. (ways ops w funs m.work).onward (v ∷ m.values) m.places m.callers t)
      ≡ (if fails then record { done = d; ending = ending.WriteFault }
      else meant_of ops w funs (with_value v m) (with_put d b))
  put_kept true b v m d = refl
  put_kept false b v m d = refl

  get_kept : (fails : Bool) (m : Moment M) (d : Done) →
      choose fails (ends ending.ReadFault) (λ t k.
      k (slice_get w.bytes t.done.reads) (record t { done = with_read t.done })) (state_of m.now d)
      (λ b t. (ways ops w funs m.work).onward (byte_or_end b ∷ m.values) m.places m.callers t)
      ≡ (if fails then record { done = d; ending = ending.ReadFault }
      else meant_of ops w funs (with_value (byte_or_end (slice_get w.bytes d.reads)) m) (with_read d))
  get_kept true m d = refl
  get_kept false m d = refl

  serve_kept : (p : Pos) (service : Service) (vs : List Value) (m : Moment M) (d : Done) →
      serve ops w p service vs (state_of m.now d)
      (λ v t. (ways ops w funs m.work).onward (v ∷ m.values) m.places m.callers t)
      ≡ acted ops w funs d (machine.serve ops funs p service vs m)
  serve_kept p Put_char vs m d = put_kept (fails_after w.failing_put (length d.output)) _ _ m d
  serve_kept p Get_char vs m d = get_kept (fails_after w.failing_read d.reads) m d
  serve_kept p Malloc vs m d =
      kept_by _ _ (alike_allocate ops w p (number_of (first_of vs))) m d
      (λ v t. (ways ops w funs m.work).onward (v ∷ m.values) m.places m.callers t) (λ v t. Goes (with_value v t))
      (λ v n. refl)
  serve_kept p Exit vs m d = refl
  serve_kept p Address vs m d =
      kept_by _ _ (alike_ask p (λ s. on_ok ops (λ a. Ok (value.Int a)) (ops.address s (first_of vs)))) m d _
      (λ v t. Goes (with_value v t)) (λ v n. refl)
  serve_kept p (Bounds exact) vs m d =
      kept_by _ _ (alike_ask p (λ s. ops.narrow s (first_of vs) (number_of (second_of vs)) exact)) m d _
      (λ v t. Goes (with_value v t)) (λ v n. refl)
  serve_kept p (Works work) vs m d =
      kept_by _ _ (alike_ask p (λ s. ops.work s work (first_of vs) (second_of vs))) m d _ (λ v t. Goes (with_value v t))
      (λ v n. refl)

  -- ---- calls

  -- a body that is left so
  body_left : (first : Bool) (g : Fun) (c : Caller) (m : Moment M) (f : Flow) (t : State M) →
      result_of ops w g f t (λ v r. closing ops w funs first g (c ∷ m.callers)
      (λ cs u. (ways ops w funs m.work).onward (v ∷ m.values) m.places cs u) r)
      ≡ way ops w funs (ways ops w funs (Leave_function first g ∷ m.work)) f m.values m.places (c ∷ m.callers) t
  body_left first g c m flow.Goes t = refl
  body_left first g c m Breaks t = refl
  body_left first g c m Continues t = refl
  body_left first g c m (Returns v) t = refl

  abbrev called_then : (first : Bool) → ℕ → List Value → Moment M → Done → Fate
  called_then first f vs m d =
      (meant_call ops w funs f vs >>= λ v. turn_to ops w funs first >> give v) (state_of m.now d)
      (λ v t. (ways ops w funs m.work).onward (v ∷ m.values) m.places m.callers t)

  turn_alike : (first : Bool) → Alike (turn_to ops w funs first) (turn_behind first)
  turn_alike true = alike_give tt
  turn_alike false = alike_turn

  opened_by : (first : Bool) (f : ℕ) (o : Option Fun) (vs : List Value) (m : Moment M) (d : Done) →
      (in_frame ops w funs (meant_call ops w funs) f o vs >>= λ v. turn_to ops w funs first >> give v)
      (state_of m.now d) (λ v t. (ways ops w funs m.work).onward (v ∷ m.values) m.places m.callers t)
      ≡ acted ops w funs d (opened ops funs first f o vs m)
  opened_by first f None vs m d =
      kept_by _ _ (turn_alike first) m d _ (λ _ t. Goes (with_value nothing t)) (λ v n. refl)
  opened_by first f (Some g) vs m d =
      kept_by _ _ (alike_then _ _ _ _ (alike_frame ops w (ops.enter f m.now.frame) f g)
      (alike_pass ops w g.name g.params vs)) (record m { callers = caller_of m.now ∷ m.callers }) d _
      (λ _ t. Goes (machine.two (Execute g.body) (Leave_function first g) t))
      (λ v n. same_next (exec ops w (meant_call ops w funs) g.body) (state_of n d) _ _
      (λ f t. body_left first g (caller_of m.now) m f t))

  opened_kept : (first : Bool) (f : ℕ) (vs : List Value) (m : Moment M) (d : Done) →
      called_then first f vs m d ≡ acted ops w funs d (opened ops funs first f (slice_get funs f) vs m)
  opened_kept first f vs m d =
      call_unfolds ops w funs f vs (state_of m.now d) _ ∙ opened_by first f (slice_get funs f) vs m d

  call_kept : (p : Pos) (fits : List Bool) (e : Ex) (args : Exs) (m : Moment M) (d : Done) →
      KeepsFinish (Call p fits e args) m d
  call_kept p fits e args m d =
      kept_by _ _ (alike_bind _ _ _ _ (alike_called ops w p fits (first_of (beyond (count_of args) m.values)))
      (λ f. alike_then _ _ _ _ alike_turn (alike_give f)))
      (record m { values = behind (beyond (count_of args) m.values) }) d _
      (λ f t. opened ops funs false f (slice_get funs f) (turned (count_of args) m.values []) t)
      (λ f n. opened_kept false f (turned (count_of args) m.values [])
      (record m { values = behind (beyond (count_of args) m.values); now = n }) d)

  finish_kept : (e : Ex) (m : Moment M) (d : Done) → KeepsFinish e m d
  finish_kept (Load k e) m d = operation_kept (Load k e) m d (alike_load ops w k (first_place m.places))
  finish_kept (Pointer_to p n e) m d =
      operation_kept (Pointer_to p n e) m d (alike_point_to ops w p n (first_place m.places))
  finish_kept (Convert p old new plain e) m d =
      operation_kept (Convert p old new plain e) m d (alike_ask p (λ m. convert_by ops m old new _))
  finish_kept (Unary p sign k e) m d =
      operation_kept (Unary p sign k e) m d (ask_same p _ (λ s. sign_by ops no_world sign k s _)
      (λ s. sign_any sign k s _))
  finish_kept (Not p k e) m d =
      operation_kept (Not p k e) m d (alike_bind _ _ _ _ (alike_test ops w p k (first_of m.values)) (λ b. alike_give _))
  finish_kept (Binary p op a b) m d =
      operation_kept (Binary p op a b) m d (ask_same p _
      (λ s. operate_by ops no_world op s (second_of m.values) (first_of m.values))
      (λ s. operate_any op s (second_of m.values) (first_of m.values)))
  finish_kept (Compare p op k a b) m d =
      operation_kept (Compare p op k a b) m d (alike_bind _ _ _ _
      (alike_ask p (λ s. compare_by ops s op k (second_of m.values) (first_of m.values))) (λ r. alike_give _))
  finish_kept (Assign k a b) m d =
      operation_kept (Assign k a b) m d (alike_then _ _ _ _
      (alike_store ops w k (first_place m.places) (first_of m.values)) (alike_give _))
  finish_kept (Copy p bytes unit a b) m d =
      operation_kept (Copy p bytes unit a b) m d
      (alike_then _ _ _ _ (alike_copy ops w p bytes unit (first_place m.places) (first_place (behind m.places)))
      (alike_give _))
  finish_kept (Compound p op kind computed old a b) m d =
      operation_kept (Compound p op kind computed old a b) m d
      (compound_alike p op kind computed old a b m.values m.places)
  finish_kept (Call p fits e args) m d = call_kept p fits e args m d
  finish_kept (Library p service args) m d =
      serve_kept p service (turned (count_of args) m.values [])
      (record m { values = beyond (count_of args) m.values }) d
  finish_kept _ m d = refl

  -- ---- places and choices

  abbrev KeepsPlace : Ex → Moment M → Done → Type 0
  KeepsPlace e m d =
      place_meant ops w funs e m.values m.places (state_of m.now d)
      (λ p t. (ways ops w funs m.work).onward (place_values ops w funs e m.values)
      (p ∷ place_places ops w funs e m.places) m.callers t) ≡ acted ops w funs d (finish_place ops funs e m)

  finish_place_kept : (e : Ex) (m : Moment M) (d : Done) → KeepsPlace e m d
  finish_place_kept (Member p offset e) m d =
      kept_by _ _ (alike_ask p (λ s. ops.offset s (capability_of (first_place m.places)) offset)) (less_place m) d _
      (λ v t. Goes (with_place (At p v) t)) (λ v n. refl)
  finish_place_kept (Copy p bytes unit a b) m d =
      kept_by _ _ (alike_copy ops w p bytes unit (first_place m.places) (first_place (behind m.places)))
      (less_place (less_place m)) d _ (λ _ t. Goes (with_place (first_place (behind m.places)) t)) (λ v n. refl)
  finish_place_kept _ m d = refl

  abbrev KeepsChoice : Ex → Moment M → Done → Type 0
  KeepsChoice e m d = choose_meant ops w funs e (first_of m.values) (state_of m.now d)
      (λ v t. (ways ops w funs m.work).onward (v ∷ behind m.values) m.places m.callers t)
      ≡ acted ops w funs d (choose_item ops funs e m)

  and_chosen : (p : Pos) (j k : Kind) (a b : Ex) (m : Moment M) (d : Done) (c : Bool) (n : Now M) →
      choose c (value_of ops w (meant_call ops w funs) b >>= λ y. test ops w p k y >>= λ d. give (truth d))
      (give (truth false)) (state_of n d) (λ v t.
      (ways ops w funs m.work).onward (v ∷ behind m.values) m.places m.callers t)
      ≡ meant_of ops w funs (chosen ops funs (And p j k a b) c (record m { values = behind m.values; now = n })) d
  and_chosen p j k a b m d true n = refl
  and_chosen p j k a b m d false n = refl

  or_chosen : (p : Pos) (j k : Kind) (a b : Ex) (m : Moment M) (d : Done) (c : Bool) (n : Now M) →
      choose c (give (truth true)) (value_of ops w (meant_call ops w funs) b >>= λ y. test ops w p k y
      >>= λ d. give (truth d)) (state_of n d)
      (λ v t. (ways ops w funs m.work).onward (v ∷ behind m.values) m.places m.callers t)
      ≡ meant_of ops w funs (chosen ops funs (Or p j k a b) c (record m { values = behind m.values; now = n })) d
  or_chosen p j k a b m d true n = refl
  or_chosen p j k a b m d false n = refl

  conditional_chosen : (p : Pos) (k : Kind) (e a b : Ex) (m : Moment M) (d : Done) (c : Bool) (n : Now M) →
      choose c (value_of ops w (meant_call ops w funs) a) (value_of ops w (meant_call ops w funs) b) (state_of n d)
      (λ v t. (ways ops w funs m.work).onward (v ∷ behind m.values) m.places m.callers t)
      ≡ meant_of ops w funs (chosen ops funs (Conditional p k e a b) c (record m { values = behind m.values; now = n }))
      d
  conditional_chosen p k e a b m d true n = refl
  conditional_chosen p k e a b m d false n = refl

  choose_kept : (e : Ex) (m : Moment M) (d : Done) → KeepsChoice e m d
  choose_kept (And p j k a b) m d =
      kept_by _ _ (alike_test ops w p j (first_of m.values)) (less_value m) d _
      (λ c t. Goes (chosen ops funs (And p j k a b) c t)) (λ c n. and_chosen p j k a b m d c n)
  choose_kept (Or p j k a b) m d =
      kept_by _ _ (alike_test ops w p j (first_of m.values)) (less_value m) d _
      (λ c t. Goes (chosen ops funs (Or p j k a b) c t)) (λ c n. or_chosen p j k a b m d c n)
  choose_kept (Conditional p k e a b) m d =
      kept_by _ _ (alike_test ops w p k (first_of m.values)) (less_value m) d _
      (λ c t. Goes (chosen ops funs (Conditional p k e a b) c t)) (λ c n. conditional_chosen p k e a b m d c n)
  choose_kept _ m d = refl

  place_chosen : (a b : Ex) (m : Moment M) (d : Done) (c : Bool) (n : Now M) →
      choose c (place_of ops w (meant_call ops w funs) a) (place_of ops w (meant_call ops w funs) b) (state_of n d)
      (λ p t. (ways ops w funs m.work).onward (behind m.values) (p ∷ m.places) m.callers t)
      ≡ meant_of ops w funs (if c then machine.one (Designate a) (record m { values = behind m.values; now = n })
      else machine.one (Designate b) (record m { values = behind m.values; now = n })) d
  place_chosen a b m d true n = refl
  place_chosen a b m d false n = refl

  choose_place_kept : (e : Ex) (m : Moment M) (d : Done) →
      choose_place_meant ops w funs e (first_of m.values) (state_of m.now d)
      (λ p t. (ways ops w funs m.work).onward (behind m.values) (p ∷ m.places) m.callers t)
      ≡ acted ops w funs d (choose_place ops funs e m)
  choose_place_kept (Conditional p k e a b) m d =
      kept_by _ _ (alike_test ops w p k (first_of m.values)) (less_value m) d _
      (λ c t. Goes (if c then machine.one (Designate a) t else machine.one (Designate b) t))
      (λ c n. place_chosen a b m d c n)
  choose_place_kept _ m d = refl

  decide_kept : (e : Ex) (m : Moment M) (d : Done) →
      decide_meant ops w funs e (first_of m.values) (state_of m.now d)
      (λ v t. (ways ops w funs m.work).onward (v ∷ behind m.values) m.places m.callers t)
      ≡ acted ops w funs d (decide ops funs e m)
  decide_kept (And p j k a b) m d =
      kept_by _ _ (alike_test ops w p k (first_of m.values)) (less_value m) d _ (λ c t. Goes (with_value (truth c) t))
      (λ c n. refl)
  decide_kept (Or p j k a b) m d =
      kept_by _ _ (alike_test ops w p k (first_of m.values)) (less_value m) d _ (λ c t. Goes (with_value (truth c) t))
      (λ c n. refl)
  decide_kept _ m d = refl

  -- ---- calls that end, and jumps

  back_alike : (c : Caller) (first : Bool) (g : Fun) →
      Alike (close ops w g >> (back_to ops w funs c >> turn_to ops w funs first))
      (λ n. next_of (part.close ops g n) (λ _ n. next_of (back c n) (λ _. turn_behind first)))
  back_alike c first g = alike_then _ _ _ _ (alike_close ops w g)
      (alike_then (back_to ops w funs c) (back c) _ _ (record { at = λ n d k. refl }) (turn_alike first))

  closed_kept : (first : Bool) (g : Fun) (v : Value) (cs : List Caller) (m : Moment M) (d : Done) →
      closing ops w funs first g cs (λ c u. (ways ops w funs m.work).onward (v ∷ m.values) m.places c u)
      (state_of m.now d) ≡ acted ops w funs d (closed ops funs first g v cs (record m { callers = cs }))
  closed_kept first g v [] m d =
      kept_by _ _ (alike_then _ _ _ _ (alike_close ops w g) (turn_alike first)) (record m { callers = [] }) d _
      (λ _ t. Goes (with_value v t)) (λ x n. refl)
  closed_kept first g v (c ∷ cs) m d =
      kept_by _ _ (back_alike c first g) (record m { callers = cs }) d _ (λ _ t. Goes (with_value v t)) (λ x n. refl)

  leave_kept : (first : Bool) (g : Fun) (m : Moment M) (d : Done) →
      onward ops w funs (Leave_function first g) (ways ops w funs m.work) m.values m.places m.callers (state_of m.now d)
      ≡ acted ops w funs d (act_on ops funs (Leave_function first g) m)
  leave_kept first g m d =
      kept_by _ _ (alike_at_end ops w g.name g.at_end) m d _ (λ v t. closed ops funs first g v t.callers t)
      (λ v n. closed_kept first g v m.callers (record m { now = n }) d)

  jumped_kept : (f : Flow) (is : List Item) (m : Moment M) (d : Done) →
      way ops w funs (ways ops w funs is) f m.values m.places m.callers (state_of m.now d)
      ≡ acted ops w funs d (jumped ops funs f is m)
  jumped_kept flow.Goes is m d = refl
  jumped_kept Breaks [] m d = refl
  jumped_kept Continues [] m d = refl
  jumped_kept (Returns v) [] m d = refl
  jumped_kept Breaks (Leave ds ∷ is) m d =
      kept_by _ _ (alike_leave ops w ds) m d _ (λ _ t. jumped ops funs Breaks is t)
      (λ x n. jumped_kept Breaks is (record m { now = n }) d)
  jumped_kept Continues (Leave ds ∷ is) m d =
      kept_by _ _ (alike_leave ops w ds) m d _ (λ _ t. jumped ops funs Continues is t)
      (λ x n. jumped_kept Continues is (record m { now = n }) d)
  jumped_kept (Returns v) (Leave ds ∷ is) m d =
      kept_by _ _ (alike_leave ops w ds) m d _ (λ _ t. jumped ops funs (Returns v) is t)
      (λ x n. jumped_kept (Returns v) is (record m { now = n }) d)
  jumped_kept Breaks (Again l ∷ is) m d = refl
  jumped_kept Breaks (Switch_end ∷ is) m d = refl
  jumped_kept Continues (Again l ∷ is) m d = refl
  jumped_kept Breaks (Leave_function first g ∷ is) m d = refl
  jumped_kept Continues (Leave_function first g ∷ is) m d = refl
  jumped_kept (Returns v) (Leave_function first g ∷ is) m d = closed_kept first g v m.callers (record m { work = is }) d
  jumped_kept Breaks (i ∷ is) m d = jumped_kept Breaks is m d
  jumped_kept Continues (i ∷ is) m d = jumped_kept Continues is m d
  jumped_kept (Returns v) (i ∷ is) m d = jumped_kept (Returns v) is m d

  -- ---- statements

  -- what follows a statement in the moment's work
  abbrev follows : Moment M → List Item → Flow → State M → Fate
  follows m is f t = way ops w funs (ways ops w funs is) f m.values m.places m.callers t

  -- a block is left, however its statements are
  block_left : (ds : List Declared) (m : Moment M) (f : Flow) (t : State M) →
      leave ops w ds t (λ _ u. follows m m.work f u) ≡ follows m (Leave ds ∷ m.work) f t
  block_left ds m flow.Goes t = refl
  block_left ds m Breaks t = refl
  block_left ds m Continues t = refl
  block_left ds m (Returns v) t = refl

  rest_follows : (ss : Sts) (m : Moment M) (f : Flow) (t : State M) →
      after f (execs ops w (meant_call ops w funs) ss) t (follows m m.work) ≡ follows m (Rest ss ∷ m.work) f t
  rest_follows ss m flow.Goes t = refl
  rest_follows ss m Breaks t = refl
  rest_follows ss m Continues t = refl
  rest_follows ss m (Returns v) t = refl

  body_follows : (l : Loop) (m : Moment M) (f : Flow) (t : State M) →
      after_body f (again_meant ops w funs l) t (follows m m.work) ≡ follows m (Again l ∷ m.work) f t
  body_follows l m flow.Goes t = refl
  body_follows l m Breaks t = refl
  body_follows l m Continues t = refl
  body_follows l m (Returns v) t = refl

  -- the statements before the first test of a `for`
  first_follows : (ds : List Declared) (l : Option (Pos × Kind × Ex)) (u : Option Ex) (b : St) (m : Moment M) (f : Flow)
      (t : State M) →
      after f (for_loop ops w funs l u b) t (λ g r. leave ops w ds r (λ _ q. follows m m.work g q))
      ≡ follows m (Test (Before l u b) ∷ Leave ds ∷ m.work) f t
  first_follows ds l u b m flow.Goes t = same_next (for_loop ops w funs l u b) t _ _ (λ g r. block_left ds m g r)
  first_follows ds l u b m Breaks t = refl
  first_follows ds l u b m Continues t = refl
  first_follows ds l u b m (Returns v) t = refl

  execute_kept : (a : St) (m : Moment M) (d : Done) →
      exec ops w (meant_call ops w funs) a (state_of m.now d) (λ f t. follows m m.work f t)
      ≡ acted ops w funs d (execute ops funs a m)
  execute_kept (Block ds ss) m d =
      kept_by _ _ (alike_enter ops w ds) m d _ (λ _ t. Goes (machine.two (Rest ss) (Leave ds) t))
      (λ x n. same_next (execs ops w (meant_call ops w funs) ss) (state_of n d) _ _ (λ f t. block_left ds m f t))
  execute_kept (For ds first l u b) m d =
      kept_by _ _ (alike_enter ops w ds) m d _
      (λ _ t. Goes (machine.three (Rest first) (Test (Before l u b)) (Leave ds) t))
      (λ x n. same_next (execs ops w (meant_call ops w funs) first) (state_of n d) _ _
      (λ f t. first_follows ds l u b m f t))
  execute_kept (Do_while p k b e) m d =
      do_unfolds ops w funs p k b e (state_of m.now d) _
      ∙ same_next (exec ops w (meant_call ops w funs) b) (state_of m.now d) _ _
      (λ f t. body_follows (Behind p k e b) m f t)
  execute_kept Break m d = jumped_kept Breaks m.work m d
  execute_kept Continue m d = jumped_kept Continues m.work m d
  execute_kept (Return None) m d = jumped_kept (Returns nothing) m.work m d
  execute_kept (Return (Some e)) m d = refl
  execute_kept _ m d = refl

  proceed_kept : (ss : Sts) (m : Moment M) (d : Done) →
      execs ops w (meant_call ops w funs) ss (state_of m.now d) (λ f t. follows m m.work f t)
      ≡ acted ops w funs d (proceed ops funs ss m)
  proceed_kept End m d = refl
  proceed_kept (Seq a ss) m d =
      same_next (exec ops w (meant_call ops w funs) a) (state_of m.now d) _ _ (λ f t. rest_follows ss m f t)

  initialize_kept : (a : St) (m : Moment M) (d : Done) →
      initialize_meant ops w funs a m.values m.places (state_of m.now d)
      (λ _ t. (ways ops w funs m.work).onward (initialize_values ops w funs a m.values)
      (initialize_places ops w funs a m.places) m.callers t) ≡ acted ops w funs d (initialize ops funs a m)
  initialize_kept (Give x e) m d =
      kept_by _ _ (alike_set_variable x (Some (first_of m.values))) (less_value m) d
      (λ _ t. (ways ops w funs m.work).onward (initialize_values ops w funs (Give x e) m.values)
      (initialize_places ops w funs (Give x e) m.places) m.callers t) (λ _ t. Goes t) (λ x n. refl)
  initialize_kept (Init p local offset k e) m d =
      kept_by _ _ (alike_bind _ _ _ _ (alike_part_of_local ops w p local offset)
      (λ to. alike_store ops w k to (first_of m.values))) (less_value m) d
      (λ _ t. (ways ops w funs m.work).onward (initialize_values ops w funs (Init p local offset k e) m.values)
      (initialize_places ops w funs (Init p local offset k e) m.places) m.callers t) (λ _ t. Goes t) (λ x n. refl)
  initialize_kept (Fill p local offset bytes unit e) m d =
      kept_by _ _ (alike_bind _ _ _ _ (alike_part_of_local ops w p local offset)
      (λ to. alike_copy ops w p bytes unit (first_place m.places) to)) (less_place m) d
      (λ _ t. (ways ops w funs m.work).onward
      (initialize_values ops w funs (Fill p local offset bytes unit e) m.values)
      (initialize_places ops w funs (Fill p local offset bytes unit e) m.places) m.callers t) (λ _ t. Goes t)
      (λ x n. refl)
  initialize_kept _ m d = refl

  branched : (a b : St) (m : Moment M) (d : Done) (c : Bool) (n : Now M) →
      choose c (exec ops w (meant_call ops w funs) a) (exec ops w (meant_call ops w funs) b) (state_of n d)
      (λ f t. follows (less_value m) m.work f t)
      ≡ meant_of ops w funs (if c then machine.one (Execute a) (record m { values = behind m.values; now = n })
      else machine.one (Execute b) (record m { values = behind m.values; now = n })) d
  branched a b m d true n = refl
  branched a b m d false n = refl

  branch_kept : (a : St) (m : Moment M) (d : Done) →
      branch_meant ops w funs a (first_of m.values) (state_of m.now d) (λ f t. follows (less_value m) m.work f t)
      ≡ acted ops w funs d (branch ops funs a m)
  branch_kept (If p k e a b) m d =
      kept_by _ _ (alike_test ops w p k (first_of m.values)) (less_value m) d _
      (λ c t. Goes (if c then machine.one (Execute a) t else machine.one (Execute b) t))
      (λ c n. branched a b m d c n)
  branch_kept _ m d = refl

  -- a loop's body, and then the loop
  body_kept : (l : Loop) (b : St) (m : Moment M) (s : State M) →
      (exec ops w (meant_call ops w funs) b >>= λ f. after_body f (again_meant ops w funs l)) s (follows m m.work)
      ≡ exec ops w (meant_call ops w funs) b s (λ f t. follows m (Again l ∷ m.work) f t)
  body_kept l b m s = same_next (exec ops w (meant_call ops w funs) b) s _ _ (λ f t. body_follows l m f t)

  test_kept : (l : Loop) (m : Moment M) (d : Done) →
      test_meant ops w funs l (state_of m.now d) (λ f t. follows m m.work f t)
      ≡ acted ops w funs d (at_test ops funs l m)
  test_kept (Before None u b) m d =
      for_unfolds ops w funs None u b (state_of m.now d) _ ∙ body_kept (Before None u b) b m (state_of m.now d)
  test_kept (Before (Some t) u b) m d = for_unfolds ops w funs (Some t) u b (state_of m.now d) _
  test_kept (Behind p k e b) m d = refl

  turned_kept : (c : Then M Flow) (is : List Item) (m : Moment M) (d : Done) →
      ((n : Now M) → c (state_of n d) (λ f t. follows m m.work f t)
      ≡ meant_of ops w funs (record m { work = is; now = n }) d) →
      (turn >> c) (state_of m.now d) (λ f t. follows m m.work f t) ≡ acted ops w funs d (turned_to ops funs is m)
  turned_kept c is m d h = kept_by _ _ alike_turn m d _ (λ _ t. Goes (record t { work = is })) (λ x n. h n)

  before_tested : (t : Pos × Kind × Ex) (u : Option Ex) (b : St) (m : Moment M) (d : Done) (c : Bool) (n : Now M) →
      after_test ops w funs (Before (Some t) u b) c (state_of n d) (λ f r. follows (less_value m) m.work f r)
      ≡ meant_of ops w funs (if c
      then machine.two (Execute b) (Again (Before (Some t) u b)) (record m { values = behind m.values; now = n })
      else record m { values = behind m.values; now = n }) d
  before_tested t u b m d true n = body_kept (Before (Some t) u b) b (less_value m) (state_of n d)
  before_tested t u b m d false n = refl

  behind_tested : (p : Pos) (k : Kind) (e : Ex) (b : St) (m : Moment M) (d : Done) (c : Bool) (n : Now M) →
      after_test ops w funs (Behind p k e b) c (state_of n d) (λ f r. follows (less_value m) m.work f r)
      ≡ acted ops w funs d (if c
      then turned_to ops funs (Execute b ∷ Again (Behind p k e b) ∷ m.work)
      (record m { values = behind m.values; now = n }) else Goes (record m { values = behind m.values; now = n }))
  behind_tested p k e b m d true n =
      turned_kept (do_loop ops w funs p k e b) (Execute b ∷ Again (Behind p k e b) ∷ m.work)
      (record m { values = behind m.values; now = n }) d
      (λ q. do_unfolds ops w funs p k b e (state_of q d) _ ∙ body_kept (Behind p k e b) b (less_value m) (state_of q d))
  behind_tested p k e b m d false n = refl

  tested_kept : (l : Loop) (m : Moment M) (d : Done) →
      tested_meant ops w funs l (first_of m.values) (state_of m.now d) (λ f t. follows (less_value m) m.work f t)
      ≡ acted ops w funs d (tested ops funs l m)
  tested_kept (Before None u b) m d = body_kept (Before None u b) b (less_value m) (state_of m.now d)
  tested_kept (Before (Some t) u b) m d =
      kept_by _ _ (alike_test ops w t.0 t.1 (first_of m.values)) (less_value m) d _
      (λ c r. Goes (if c then machine.two (Execute b) (Again (Before (Some t) u b)) r else r))
      (λ c n. before_tested t u b m d c n)
  tested_kept (Behind p k e b) m d =
      kept_by _ _ (alike_test ops w p k (first_of m.values)) (less_value m) d _
      (λ c r. if c then turned_to ops funs (Execute b ∷ Again (Behind p k e b) ∷ r.work) r else Goes r)
      (λ c n. behind_tested p k e b m d c n)

  again_kept : (l : Loop) (m : Moment M) (d : Done) →
      again_meant ops w funs l (state_of m.now d) (λ f t. follows m m.work f t)
      ≡ acted ops w funs d (again ops funs l m)
  again_kept (Before t None b) m d =
      turned_kept (for_loop ops w funs t None b) (Test (Before t None b) ∷ m.work) m d (λ n. refl)
  again_kept (Before t (Some e) b) m d = refl
  again_kept (Behind p k e b) m d = refl

  -- ---- `switch`

  from_label : (ss : Sts) (n : ℕ) (s : State M) (k : K Flow) →
      execs_from ops w (meant_call ops w funs) ss n s k ≡ execs ops w (meant_call ops w funs) (execs_behind ss n) s k
  from_label End n s k = refl
  from_label (Seq a ss) zero s k = refl
  from_label (Seq a ss) (suc n) s k = from_label ss n s k

  switch_left : (ds : List Declared) (m : Moment M) (f : Flow) (t : State M) →
      after_switch f t (λ g r. leave ops w ds r (λ _ q. follows m m.work g q))
      ≡ follows m (Switch_end ∷ Leave ds ∷ m.work) f t
  switch_left ds m flow.Goes t = refl
  switch_left ds m Breaks t = refl
  switch_left ds m Continues t = refl
  switch_left ds m (Returns v) t = refl

  labelled : (ss : Sts) (ds : List Declared) (m : Moment M) (d : Done) (o : Option ℕ) (n : Now M) →
      flow.jump o (λ j. execs_from ops w (meant_call ops w funs) ss j) (state_of n d)
      (λ g r. leave ops w ds r (λ _ q. follows m m.work g q))
      ≡ meant_of ops w funs (to_label ops funs ss ds o (record m { now = n })) d
  labelled ss ds m d None n = refl
  labelled ss ds m d (Some j) n =
      from_label ss j (state_of n d) _
      ∙ same_next (execs ops w (meant_call ops w funs) (execs_behind ss j)) (state_of n d) _ _
      (λ f t. switch_left ds m f t)

  label_kept : (a : St) (m : Moment M) (d : Done) →
      label_meant ops w funs a (first_of m.values) (state_of m.now d) (λ f t. follows (less_value m) m.work f t)
      ≡ acted ops w funs d (choose_label ops funs a m)
  label_kept (Switch p k e ds ls ss) m d =
      kept_by _ _ (alike_then _ _ _ _ (alike_enter ops w ds)
      (alike_find_label ops w p k (first_of m.values) ls (default_of ls))) (less_value m) d _
      (λ o t. Goes (to_label ops funs ss ds o t)) (λ o n. labelled ss ds (less_value m) d o n)
  label_kept _ m d = refl

  -- ---- acts

  act_on_kept : (i : Item) (m : Moment M) (d : Done) →
      onward ops w funs i (ways ops w funs m.work) m.values m.places m.callers (state_of m.now d)
      ≡ acted ops w funs d (act_on ops funs i m)
  act_on_kept (Evaluate e) m d = evaluate_kept e m d
  act_on_kept (Designate e) m d = designate_kept e m d
  act_on_kept Drop m d = refl
  act_on_kept (Finish e) m d = finish_kept e m d
  act_on_kept (Finish_place e) m d = finish_place_kept e m d
  act_on_kept (Choose e) m d = choose_kept e m d
  act_on_kept (Choose_place e) m d = choose_place_kept e m d
  act_on_kept (Decide e) m d = decide_kept e m d
  act_on_kept (Begin f) m d = opened_kept true f [] m d
  act_on_kept (Leave_function first g) m d = leave_kept first g m d
  act_on_kept (Execute a) m d = execute_kept a m d
  act_on_kept (Rest ss) m d = proceed_kept ss m d
  act_on_kept (Initialize a) m d = initialize_kept a m d
  act_on_kept (Branch a) m d = branch_kept a m d
  act_on_kept (Test l) m d = test_kept l m d
  act_on_kept (Tested l) m d = tested_kept l m d
  act_on_kept (Again l) m d = again_kept l m d
  act_on_kept (Turn l) m d = turned_kept (test_meant ops w funs l) (Test l ∷ m.work) m d (λ n. refl)
  act_on_kept (Choose_label a) m d = label_kept a m d
  act_on_kept Switch_end m d = refl
  act_on_kept (Leave ds) m d = kept_by _ _ (alike_leave ops w ds) m d _ (λ _ t. Goes t) (λ x n. refl)
  act_on_kept Give_back m d = jumped_kept (Returns (first_of m.values)) m.work (less_value m) d

  act_of_kept : (is : List Item) (m : Moment M) (d : Done) →
      (ways ops w funs is).onward m.values m.places m.callers (state_of m.now d)
      ≡ acted ops w funs d (act_of ops funs is m)
  act_of_kept [] m d = refl
  act_of_kept (i ∷ is) m d = act_on_kept i (record m { work = is }) d

  -- an act keeps what a moment comes to
  pub kept : (m : Moment M) (d : Done) → meant_of ops w funs m d ≡ acted ops w funs d (act ops funs m)
  unfolding act
  kept m d = act_of_kept m.work m d
