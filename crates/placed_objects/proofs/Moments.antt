-- What holds of where objects are and of the calls in progress is kept by each act, where it is kept by allocations,
-- and as calls begin and end.
use Rattle.std.proofs.Common.{◌≡◌, ℕ, zero, suc, ◌+◌, ◌/◌, Bool, true, false, not, List, [], ◌∷◌, length, Option, Some}
use Rattle.std.proofs.Common.{None}
use Rattle.std.proofs.Common.{◌<◌, Result, Ok, Err, refl, sym, ◌∙◌, subst}
use Rattle.std.specs.Prelude.{slice_get, slice_index_or, if◌then◌else◌}
use Rattle.ck_base.specs.World.{World, Done, fails_after}
use Rattle.ck_base.specs.Runs.{Act, Goes, Puts, Reads, Ends, Stopped, stopped, with_put, with_read, act_in, run}
use Rattle.ck_base.specs.declared.positions.Pos.{Pos}
use Rattle.ck_int.specs.declared.kinds.CmpOp.TheVariants.{Eq}
use Rattle.cap_ops.specs.Permissions.{data_permissions}
use Rattle.obj_mem.specs.Values.{Value, Int, Live, Raw}
use Rattle.obj_mem.specs.Values as value
use Rattle.obj_mem.specs.declared.ending.Ending.{Ending}
use Rattle.obj_mem.specs.declared.ending.Fault.{Fault}
use Rattle.obj_mem.specs.declared.ending.UnitFault.{UnitFault}
use Rattle.cheri_c_sem.specs.Kinds.{Kind, bytes_of, read_as, nothing, number_of, truth}
use Rattle.cheri_c_sem.specs.Operations.{Operations, on_ok, compare_by, convert_by, is_true}
use Rattle.cheri_c_sem.specs.Tree.{Service, Put_char, Get_char, Malloc, Exit, Address, Bounds, Works, Ex, Number, Null}
use Rattle.cheri_c_sem.specs.Tree.{Load, Aggregate, Pointer_to, Convert, Unary, Not, Binary, Compare, And, Or}
use Rattle.cheri_c_sem.specs.Tree.{Conditional, Comma, Assign, Copy, Compound, Call, Library, Variable, Local, Object}
use Rattle.cheri_c_sem.specs.Tree.{Function, Deref, Member, Exs, Nil, Cons, Declared, Simple, Objects, Label, Case}
use Rattle.cheri_c_sem.specs.Tree.{Default, St, Do, Give, Init, Fill, Block, If, While, Do_while, For, Switch, Break}
use Rattle.cheri_c_sem.specs.Tree.{Continue, Return, Empty, Sts, End, Seq, Narrowing, Parameter, In_variable, In_object}
use Rattle.cheri_c_sem.specs.Tree.{At_end, Gives_nothing, Gives_zero, Lacks, Fun}
use Rattle.cheri_c_sem.specs.Meaning.{Place, In, At, position_of, capability_of, further, first_of, second_of}
use Rattle.cheri_c_sem.specs.Meaning.{operate_by, sign_by}
use Rattle.cheri_c_sem.specs.Statements.{Flow, Breaks, Continues, Returns, default_of, label_value}
use Rattle.cheri_c_sem.specs.Statements as flow
use Rattle.cheri_c_sem.specs.Calls.{add_locals, end_locals}
use Rattle.mean_steps.specs.Parts.{Now, Came, On, Over, Part, next_of, give, answer, unit_answer, turn_from, turn}
use Rattle.mean_steps.specs.Parts.{choose, ask, set_memory, change_memory, set_variable, given, load, store, copy_units}
use Rattle.mean_steps.specs.Parts.{copy, point_to, part_of_local, test, allocate, enter_one, enter, leave_one, leave}
use Rattle.mean_steps.specs.Parts.{find_label, compatible, called, frame, pass_one, pass, at_end, close}
use Rattle.mean_steps.specs.Machine as machine
use Rattle.mean_steps.specs.Machine.{Loop, Before, Behind, Item, Evaluate, Designate, Drop, Finish, Finish_place}
use Rattle.mean_steps.specs.Machine.{Choose, Choose_place, Decide, Begin, Leave_function, Execute, Rest, Initialize}
use Rattle.mean_steps.specs.Machine.{Branch, Test, Tested, Again, Turn, Choose_label, Switch_end, Leave, Give_back}
use Rattle.mean_steps.specs.Machine.{Caller, Moment, no_world, behind, first_place, turned, beyond, count_of}
use Rattle.mean_steps.specs.Machine.{before_arguments, execs_behind, with_value, with_place, less_value, less_place}
use Rattle.mean_steps.specs.Machine.{doing, done_in, caller_of, back, turn_behind, evaluate, designate, finish}
use Rattle.mean_steps.specs.Machine.{values_behind, places_behind, finished, opened, call, closed, serve, finish_item}
use Rattle.mean_steps.specs.Machine.{finish_place, chosen, choose_item, choose_place, decide, jumped, execute, proceed}
use Rattle.mean_steps.specs.Machine.{initialize, branch, at_test, turned_to, tested, again, to_label, choose_label}
use Rattle.mean_steps.specs.Machine.{act_on, act_of, act, limits}
use Rattle.placement.specs.Trees.{AllDeclaredFit, DeclaredFit, DoesFit, DoFit, ParameterFit, ParametersFit}
use Rattle.placement.specs.Trees.{FunctionsFit}
use Rattle.placed_objects.specs.Calls.{functions_of}

-- what a part of a run comes to, if it goes on
abbrev Yields : {M A : Type 0} → (A → Now M → Type 0) → Came M A → Type 0
Yields Q (On x n) = Q x n
Yields Q (Over e) = Unit {0}

next_yields : {M A B : Type 0} (Q : A → Now M → Type 0) (R : B → Now M → Type 0) (r : Came M A) (f : A → Part M B)
    → Yields Q r → ((x : A) (n : Now M) → Q x n → Yields R (f x n)) → Yields R (next_of r f)
next_yields Q R (On x n) f h g = g x n h
next_yields Q R (Over e) f h g = tt

-- how many objects the newest call has
abbrev pub locals_in : List Fun → ℕ
locals_in [] = 0
locals_in (g ∷ gs) = length g.objects

-- What is seen of memory, and what holds of it with the first object and the frame of the newest call, the functions
-- that are to be left, and their callers
module _ {M V : Type 0} (ops : Operations M) (funs : List Fun) (view : M → V)
    (P : V → (first frame : ℕ) → List Fun → List Caller → Type 0) where
  pub record Keeps : Type 0 where
    pub stores : (m m' : M) (to : Value) (k : ℕ) (x : Value) → ops.store m to k x ≡ Ok m' → view m' ≡ view m
    pub copies : (m m' : M) (from to : Value) (unit : ℕ) → ops.copy_unit m from to unit ≡ Ok m' → view m' ≡ view m
    pub notes : (m : M) (v : Value) (own : ℕ) → view (ops.note_member m v own) ≡ view m
    pub zeros : (m : M) (j first frame : ℕ) (gs : List Fun) (cs : List Caller) → j < locals_in gs
        → P (view m) first frame gs cs → P (view (ops.zero m (first + j))) first frame gs cs
    pub leaves : (m : M) (k : ℕ) → view (ops.leave m k) ≡ view m
    pub allocates : (m : M) (r : Value × M) (j first frame : ℕ) (gs : List Fun) (cs : List Caller)
        → ops.allocate m j ≡ Ok r → P (view m) first frame gs cs → P (view r.1) first frame gs cs
    pub opens : (m : M) (f at first frame : ℕ) (g : Fun) (vars : List (Option Value)) (gs : List Fun) (cs : List Caller)
        → slice_get funs f ≡ Some g → ops.enter f frame ≡ Some at → P (view m) first frame gs cs
        → P (view (add_locals ops m at f 0 g.objects)) (ops.count m) at (g ∷ gs)
        (record { vars = vars; first = first; frame = frame } ∷ cs)
    pub closes : (m : M) (first frame : ℕ) (g : Fun) (gs : List Fun) (c : Caller) (cs : List Caller)
        → P (view m) first frame (g ∷ gs) (c ∷ cs)
        → P (view (end_locals ops m first g.objects)) c.first c.frame gs cs
    pub closes_alone : (m : M) (first frame : ℕ) (g : Fun) (gs : List Fun) → P (view m) first frame (g ∷ gs) []
        → P (view (end_locals ops m first g.objects)) first frame gs []

  module _ (keeps : Keeps) (globals : ℕ) (fits : FunctionsFit globals funs) where
    abbrev functions : ℕ
    functions = length funs

    -- ---- work whose locals are those of its call

    abbrev LoopFits : ℕ → Loop → Type 0
    LoopFits n (Before t u b) = DoesFit globals functions n b
    LoopFits n (Behind p k e b) = DoesFit globals functions n b

    abbrev ItemFits : ℕ → Item → Type 0
    ItemFits n (Execute a) = DoesFit globals functions n a
    ItemFits n (Rest ss) = DoFit globals functions n ss
    ItemFits n (Branch a) = DoesFit globals functions n a
    ItemFits n (Test l) = LoopFits n l
    ItemFits n (Tested l) = LoopFits n l
    ItemFits n (Again l) = LoopFits n l
    ItemFits n (Turn l) = LoopFits n l
    ItemFits n (Choose_label a) = DoesFit globals functions n a
    ItemFits n _ = Unit {0}

    abbrev pub WorkFits : List Item → Type 0
    WorkFits [] = Unit {0}
    WorkFits (i ∷ is) = ItemFits (locals_in (functions_of is)) i × WorkFits is

    -- ---- parts

    module _ (gs : List Fun) (cs : List Caller) where
      abbrev Now_holds : Now M → Type 0
      Now_holds n = P (view n.mem) n.first n.frame gs cs

      abbrev Kept : {A : Type 0} → Came M A → Type 0
      Kept r = Yields (λ _ n. Now_holds n) r

      abbrev Steady : {A : Type 0} → Part M A → Type 0
      Steady p = (n : Now M) → Now_holds n → Kept (p n)

      bind : {A B : Type 0} (p : Part M A) (f : A → Part M B) → Steady p → ((x : A) → Steady (f x))
          → Steady (λ n. next_of (p n) f)
      bind p f h g n i = next_yields (λ _ t. Now_holds t) (λ _ t. Now_holds t) (p n) f (h n i) (λ x t k. g x t k)

      steady_give : {A : Type 0} (x : A) → Steady {A = A} (give x)
      steady_give x n h = h

      steady_answer : {A : Type 0} (pos : Pos) (r : Result A Fault) → Steady {A = A} (answer pos r)
      steady_answer pos (Ok x) n h = h
      steady_answer pos (Err f) n h = tt

      turn_steady : (left : ℕ) → Steady (turn_from left)
      turn_steady zero n h = tt
      turn_steady (suc j) n h = h

      steady_turn : Steady turn
      steady_turn n h = turn_steady n.left n h

      steady_choose : {A : Type 0} (v : Bool) (a b : Part M A) → Steady a → Steady b → Steady (choose v a b)
      steady_choose true a b h i = h
      steady_choose false a b h i = i

      steady_ask : {A : Type 0} (pos : Pos) (f : M → Result A Fault) → Steady (ask pos f)
      steady_ask pos f n h = steady_answer pos (f n.mem) n h

      steady_set_variable : (x : ℕ) (v : Option Value) → Steady (set_variable x v)
      steady_set_variable x v n h = h

      -- memory in which the same is seen
      with_memory : (n : Now M) (m : M) → view m ≡ view n.mem → Now_holds n → Now_holds (record n { mem = m })
      with_memory n m e h = subst (λ v. P v n.first n.frame gs cs) (sym e) h

      given_steady : (p : Pos) (k : Kind) (o : Option (Option Value)) → Steady (given ops p k o)
      given_steady p k (Some (Some v)) n h = h
      given_steady p k (Some None) n h = steady_answer p (ops.unset k) n h
      given_steady p k None n h = steady_answer p (ops.unset k) n h

      steady_load : (k : Kind) (p : Place) → Steady (load ops k p)
      steady_load k (In p x) n h = given_steady p k (slice_get n.vars x) n h
      steady_load k (At p v) n h =
          bind (ask p (λ m. ops.load m v (bytes_of k))) (λ r. give (read_as k r))
          (steady_ask p (λ m. ops.load m v (bytes_of k))) (λ r. steady_give (read_as k r)) n h

      stored : (p : Pos) (n : Now M) (to x : Value) (k : ℕ) (r : Result M Fault) → ops.store n.mem to k x ≡ r
          → Now_holds n → Kept (next_of (answer p r n) (λ m. set_memory m))
      stored p n to x k (Ok m) e h = with_memory n m (keeps.stores n.mem m to k x e) h
      stored p n to x k (Err f) e h = tt

      steady_store : (k : Kind) (p : Place) (v : Value) → Steady (store ops k p v)
      steady_store k (In p x) v n h = h
      steady_store k (At p to) v n h = stored p n to v (bytes_of k) (ops.store n.mem to (bytes_of k) v) refl h

      steady_copy_units : (j unit at : ℕ) (from to : Place) → Steady (copy_units ops j unit at from to)
      steady_copy_units zero unit at from to n h = h
      steady_copy_units (suc j) unit at from to n h =
          go (ops.copy_unit n.mem (further (capability_of from) at) (further (capability_of to) at) unit) refl
          (λ m i. steady_copy_units j unit (at + unit) from to (record n { mem = m }) i)
        where
          go : (r : Result M UnitFault)
              → ops.copy_unit n.mem (further (capability_of from) at) (further (capability_of to) at) unit ≡ r
              → ((m : M) → Now_holds (record n { mem = m })
              → Kept (copy_units ops j unit (at + unit) from to (record n { mem = m })))
              → Kept (next_of (unit_answer (position_of from) (position_of to) r n)
              (λ m t. next_of (set_memory m t) (λ _. copy_units ops j unit (at + unit) from to)))
          go (Ok m) e rest =
              rest m (with_memory n m (keeps.copies n.mem m (further (capability_of from) at)
              (further (capability_of to) at) unit e) h)
          go (Err f) e rest = tt

      steady_copy : (p : Pos) (bytes unit : ℕ) (from to : Place) → Steady (copy ops p bytes unit from to)
      steady_copy p bytes unit from to n h =
          bind (answer p (ops.overlap (capability_of from) (capability_of to) bytes))
          (λ _. copy_units ops (bytes / unit) unit 0 from to)
          (steady_answer p (ops.overlap (capability_of from) (capability_of to) bytes))
          (λ _. steady_copy_units (bytes / unit) unit 0 from to) n h

      steady_point_to : (p : Pos) (o : Option Narrowing) (to : Place) → Steady (point_to ops p o to)
      steady_point_to p None to n h = h
      steady_point_to p (Some w) to n h =
          bind (ask p (λ m. ops.narrow m (capability_of to) w.owned true))
          (λ r t. next_of (change_memory (λ m. ops.note_member m r w.own) t) (λ _. give r))
          (steady_ask p (λ m. ops.narrow m (capability_of to) w.owned true))
          (λ r t k. with_memory t (ops.note_member t.mem r w.own) (keeps.notes t.mem r w.own) k) n h

      steady_part : (p : Pos) (local offset : ℕ) → Steady (part_of_local ops p local offset)
      steady_part p local offset n h =
          bind (ask p (λ m. ops.offset m (ops.whole m (n.first + local) data_permissions) offset)) (λ v. give (At p v))
          (steady_ask p (λ m. ops.offset m (ops.whole m (n.first + local) data_permissions) offset))
          (λ v. steady_give (At p v)) n h

      steady_test : (p : Pos) (k : Kind) (v : Value) → Steady (test ops p k v)
      steady_test p k v = steady_ask p (λ m. is_true ops m k v)

      allocated : (p : Pos) (j : ℕ) (n : Now M) (r : Result (Value × M) Fault) → ops.allocate n.mem j ≡ r → Now_holds n
          → Kept (next_of (answer p r n) (λ x t. next_of (set_memory x.1 t) (λ _. give x.0)))
      allocated p j n (Ok x) e h = keeps.allocates n.mem x j n.first n.frame gs cs e h
      allocated p j n (Err f) e h = tt

      steady_allocate : (p : Pos) (j : ℕ) → Steady (allocate ops p j)
      steady_allocate p j n h = allocated p j n (ops.allocate n.mem j) refl h

      steady_enter_one : (d : Declared) → DeclaredFit globals functions (locals_in gs) d → Steady (enter_one ops d)
      steady_enter_one (Simple x) f n h = h
      steady_enter_one (Objects j) f n h = keeps.zeros n.mem j n.first n.frame gs cs f h

      steady_enter : (ds : List Declared) → AllDeclaredFit globals functions (locals_in gs) ds → Steady (enter ops ds)
      steady_enter [] f n h = h
      steady_enter (d ∷ ds) f n h =
          bind (enter_one ops d) (λ _. enter ops ds) (steady_enter_one d f.0) (λ _. steady_enter ds f.1) n h

      steady_leave_one : (d : Declared) → Steady (leave_one ops d)
      steady_leave_one (Simple x) n h = h
      steady_leave_one (Objects j) n h =
          with_memory n (ops.leave n.mem (n.first + j)) (keeps.leaves n.mem (n.first + j)) h

      steady_leave : (ds : List Declared) → Steady (leave ops ds)
      steady_leave [] n h = h
      steady_leave (d ∷ ds) n h = bind (leave_one ops d) (λ _. leave ops ds) (steady_leave_one d)
          (λ _. steady_leave ds) n h

      steady_find_label : (p : Pos) (k : Kind) (v : Value) (ls : List Label) (o : Option ℕ)
          → Steady (find_label ops p k v ls o)
      steady_find_label p k v [] o n h = h
      steady_find_label p k v (Default j ∷ ls) o n h = steady_find_label p k v ls o n h
      steady_find_label p k v (Case c j ∷ ls) o n h =
          bind (ask p (λ m. compare_by ops m Eq k v (label_value k c)))
          (λ same. choose same (give (Some j)) (find_label ops p k v ls o))
          (steady_ask p (λ m. compare_by ops m Eq k v (label_value k c)))
          (λ same. steady_choose same (give (Some j)) (find_label ops p k v ls o) (steady_give (Some j))
          (steady_find_label p k v ls o)) n h

      pass_one_steady : (p : Pos) (a : Parameter) (v : Value) → ParameterFit globals functions (locals_in gs) a
          → Steady (pass_one ops p a v)
      pass_one_steady p (In_variable x) v f n h = h
      pass_one_steady p (In_object j k) v f n h =
          steady_store k (At p (ops.whole n.mem (n.first + j) data_permissions)) v
          (record n { mem = ops.zero n.mem (n.first + j) })
          (keeps.zeros n.mem j n.first n.frame gs cs f h)

      steady_pass : (p : Pos) (ps : List Parameter) (vs : List Value)
          → ParametersFit globals functions (locals_in gs) ps → Steady (pass ops p ps vs)
      steady_pass p [] vs f n h = h
      steady_pass p (a ∷ ps) [] f n h = h
      steady_pass p (a ∷ ps) (v ∷ vs) f n h =
          bind (pass_one ops p a v) (λ _. pass ops p ps vs) (pass_one_steady p a v f.0) (λ _. steady_pass p ps vs f.1)
          n h

      steady_at_end : (p : Pos) (e : At_end) → Steady (at_end ops p e)
      steady_at_end p Gives_nothing n h = h
      steady_at_end p Gives_zero n h = h
      steady_at_end p (Lacks k) n h = steady_answer p (ops.falls k) n h

      steady_turn_behind : (first : Bool) → Steady (turn_behind first)
      steady_turn_behind true n h = h
      steady_turn_behind false n h = steady_turn n h

      steady_finish : (e : Ex) (vs : List Value) (ps : List Place) → Steady (finish ops funs e vs ps)
      steady_finish (Load k e) vs ps = steady_load k (first_place ps)
      steady_finish (Pointer_to p n e) vs ps = steady_point_to p n (first_place ps)
      steady_finish (Convert p old new plain e) vs ps = steady_ask p (λ m. convert_by ops m old new (first_of vs))
      steady_finish (Unary p sign k e) vs ps = steady_ask p (λ m. sign_by ops no_world sign k m (first_of vs))
      steady_finish (Not p k e) vs ps = bind _ _ (steady_test p k (first_of vs)) (λ b. steady_give (truth (not b)))
      steady_finish (Binary p op a b) vs ps =
          steady_ask p (λ m. operate_by ops no_world op m (second_of vs) (first_of vs))
      steady_finish (Compare p op k a b) vs ps =
          bind _ _ (steady_ask p (λ m. compare_by ops m op k (second_of vs) (first_of vs)))
          (λ r. steady_give (truth r))
      steady_finish (Assign k a b) vs ps =
          bind _ _ (steady_store k (first_place ps) (first_of vs)) (λ _. steady_give (first_of vs))
      steady_finish (Copy p bytes unit a b) vs ps =
          bind _ _ (steady_copy p bytes unit (first_place ps) (first_place (behind ps))) (λ _. steady_give nothing)
      steady_finish (Compound p op kind computed old a b) vs ps =
          bind _ _ (steady_load kind (first_place ps))
          (λ x. bind _ _ (steady_ask p (λ m. convert_by ops m kind computed x))
          (λ v. bind _ _ (steady_ask p (λ m. operate_by ops no_world op m v (first_of vs)))
          (λ r. bind _ _ (steady_ask p (λ m. convert_by ops m computed kind r))
          (λ z. bind _ _ (steady_store kind (first_place ps) z) (λ _. steady_give (if old then x else z))))))
      steady_finish _ vs ps = steady_give nothing

    -- ---- moments

    abbrev Holds_in : List Item → Moment M → Type 0
    Holds_in is t = P (view t.now.mem) t.now.first t.now.frame (functions_of is) t.callers × WorkFits is

    abbrev pub Holds : Moment M → Type 0
    Holds t = Holds_in t.work t

    abbrev After : Act (Moment M) Ending → Type 0
    After (Goes t) = Holds t
    After (Puts b t) = Holds t
    After (Reads to) = (b : Option ℕ) → Holds (to b)
    After (Ends e) = Unit {0}

    after_in : {A : Type 0} (Q : A → Now M → Type 0) (r : Came M A) (m : Moment M)
        (l : A → Moment M → Act (Moment M) Ending) → Yields Q r
        → ((x : A) (t : Now M) → Q x t → After (l x (record m { now = t }))) → After (done_in m l r)
    after_in Q (On x t) m l h f = f x t h
    after_in Q (Over e) m l h f = tt

    after : {A : Type 0} (gs : List Fun) (cs : List Caller) (p : Part M A) → Steady gs cs p → (m : Moment M)
        (l : A → Moment M → Act (Moment M) Ending) → Now_holds gs cs m.now
        → ((x : A) (t : Now M) → Now_holds gs cs t → After (l x (record m { now = t }))) → After (doing p m l)
    after gs cs p s m l h f = after_in (λ _ t. Now_holds gs cs t) (p m.now) m l (s m.now h) f

    -- ---- expressions

    arguments_functions : (es : Exs) (is : List Item) → functions_of (before_arguments es is) ≡ functions_of is
    arguments_functions Nil is = refl
    arguments_functions (Cons e es) is = arguments_functions es is

    arguments_fit : (es : Exs) (is : List Item) → WorkFits is → WorkFits (before_arguments es is)
    arguments_fit Nil is h = h
    arguments_fit (Cons e es) is h = (tt, arguments_fit es is h)

    -- items of expressions ask nothing
    with_arguments : (es : Exs) (i : Item) (m : Moment M) → ItemFits (locals_in (functions_of m.work)) i
        → functions_of (i ∷ m.work) ≡ functions_of m.work → Holds m
        → Holds (record m { work = before_arguments es (i ∷ m.work) })
    with_arguments es i m f same h = (
      subst (λ gs. P (view m.now.mem) m.now.first m.now.frame gs m.callers)
          (sym (arguments_functions es (i ∷ m.work) ∙ same)) h.0,
      arguments_fit es (i ∷ m.work) (f, h.1),
    )

    evaluate_kept : (e : Ex) (m : Moment M) → Holds m → After (evaluate ops funs e m)
    evaluate_kept (Number n) m h = h
    evaluate_kept (Null n) m h = h
    evaluate_kept (Variable p x) m h = h
    evaluate_kept (Local p n) m h = h
    evaluate_kept (Object p object permissions) m h = h
    evaluate_kept (Function p f) m h = h
    evaluate_kept (Call p fit e args) m h =
        let b = with_arguments args (Finish (Call p fit e args)) m tt refl h in (b.0, (tt, b.1))
    evaluate_kept (Library p service args) m h = with_arguments args (Finish (Library p service args)) m tt refl h
    evaluate_kept (Binary p op a b) m h = (h.0, (tt, (tt, (tt, h.1))))
    evaluate_kept (Compare p op k a b) m h = (h.0, (tt, (tt, (tt, h.1))))
    evaluate_kept (Comma a b) m h = (h.0, (tt, (tt, (tt, h.1))))
    evaluate_kept (Assign k a b) m h = (h.0, (tt, (tt, (tt, h.1))))
    evaluate_kept (Copy p bytes unit a b) m h = (h.0, (tt, (tt, (tt, h.1))))
    evaluate_kept (Compound p op kind computed old a b) m h = (h.0, (tt, (tt, (tt, h.1))))
    evaluate_kept _ m h = (h.0, (tt, (tt, h.1)))

    designate_kept : (e : Ex) (m : Moment M) → Holds m → After (designate ops funs e m)
    designate_kept (Deref p e) m h = (h.0, (tt, (tt, h.1)))
    designate_kept (Member p offset e) m h = (h.0, (tt, (tt, h.1)))
    designate_kept (Aggregate e) m h = (h.0, (tt, h.1))
    designate_kept (Conditional p k e a b) m h = (h.0, (tt, (tt, h.1)))
    designate_kept (Comma a b) m h = (h.0, (tt, (tt, (tt, h.1))))
    designate_kept (Copy p bytes unit a b) m h = (h.0, (tt, (tt, (tt, h.1))))
    designate_kept _ m h = h

    -- ---- calls

    opened_kept : (first : Bool) (f : ℕ) (o : Option Fun) → slice_get funs f ≡ o → (vs : List Value) (m : Moment M)
        → Holds m → After (opened ops funs first f o vs m)
    opened_kept first f None is vs m h =
        after (functions_of m.work) m.callers (turn_behind first)
        (steady_turn_behind (functions_of m.work) m.callers first) m
        (λ _ t. Goes (with_value nothing t)) h.0 (λ x t k. (k, h.1))
    opened_kept first f (Some g) is vs m h =
        after_in (λ _ t. Now_holds (g ∷ functions_of m.work) (caller_of m.now ∷ m.callers) t)
        (next_of (frame ops (ops.enter f m.now.frame) f g m.now) (λ _. pass ops g.name g.params vs))
        (record m { callers = caller_of m.now ∷ m.callers })
        (λ _ t. Goes (machine.two (Execute g.body) (Leave_function first g) t))
        (entered (ops.enter f m.now.frame) refl) (λ x t k. (k, ((fits f g is).body, (tt, h.1))))
      where
        entered : (o : Option ℕ) → ops.enter f m.now.frame ≡ o
            → Yields (λ _ t. Now_holds (g ∷ functions_of m.work) (caller_of m.now ∷ m.callers) t)
            (next_of (frame ops o f g m.now) (λ _. pass ops g.name g.params vs))
        entered None e = tt
        entered (Some at) e =
            steady_pass (g ∷ functions_of m.work) (caller_of m.now ∷ m.callers) g.name g.params vs
            (fits f g is).params _
            (keeps.opens m.now.mem f at m.now.first m.now.frame g m.now.vars (functions_of m.work) m.callers is e h.0)

    closed_kept : (first : Bool) (g : Fun) (v : Value) (cs : List Caller) (m : Moment M) → m.callers ≡ cs
        → P (view m.now.mem) m.now.first m.now.frame (g ∷ functions_of m.work) cs → WorkFits m.work
        → After (closed ops funs first g v cs m)
    closed_kept first g v [] m is h w =
        let gs = functions_of m.work in
        after_in (λ _ t. Now_holds gs [] t) (next_of (close ops g m.now) (λ _. turn_behind first)) m
        (λ _ t. Goes (with_value v t))
        (steady_turn_behind gs [] first (record m.now { mem = end_locals ops m.now.mem m.now.first g.objects })
        (keeps.closes_alone m.now.mem m.now.first m.now.frame g gs h))
        (λ x t k. (subst (λ c. P (view t.mem) t.first t.frame gs c) (sym is) k, w))
    closed_kept first g v (c ∷ cs) m is h w =
        let gs = functions_of m.work in
        after_in (λ _ t. Now_holds gs cs t)
        (next_of (close ops g m.now) (λ _ n. next_of (back c n) (λ _. turn_behind first)))
        (record m { callers = cs }) (λ _ t. Goes (with_value v t))
        (steady_turn_behind gs cs first (record m.now {
          mem = end_locals ops m.now.mem m.now.first g.objects;
          vars = c.vars;
          first = c.first;
          frame = c.frame;
        })
        (keeps.closes m.now.mem m.now.first m.now.frame g gs c cs h))
        (λ x t k. (k, w))

    called_kept : (p : Pos) (fit : List Bool) (v : Value) (gs : List Fun) (cs : List Caller)
        → Steady gs cs (called ops p fit v)
    called_kept p fit (value.Fun f) gs cs n h = by (slice_index_or fit f false)
      where
        by : (b : Bool) → Kept gs cs (compatible ops p f b n)
        by true = h
        by false = tt
    called_kept p fit (Live object low high offset permissions) gs cs n h = tt
    called_kept p fit (Raw address upper) gs cs n h = tt
    called_kept p fit (Int j) gs cs n h = tt

    call_kept : (p : Pos) (fit : List Bool) (count : ℕ) (m : Moment M) → Holds m → After (call ops funs p fit count m)
    call_kept p fit count m h =
        let gs = functions_of m.work in
        let v = first_of (beyond count m.values) in
        after gs m.callers (λ n. next_of (called ops p fit v n) (λ f t. next_of (turn t) (λ _. give f)))
        (bind gs m.callers (called ops p fit v) (λ f t. next_of (turn t) (λ _. give f))
        (called_kept p fit v gs m.callers)
        (λ f. bind gs m.callers turn (λ _. give f) (steady_turn gs m.callers) (λ _. steady_give gs m.callers f)))
        (record m { values = behind (beyond count m.values) })
        (λ f t. opened ops funs false f (slice_get funs f) (turned count m.values []) t) h.0
        (λ f t k. opened_kept false f (slice_get funs f) refl (turned count m.values [])
        (record m { values = behind (beyond count m.values); now = t }) (k, h.1))

    -- a part that is steady, and then nothing that is seen here
    goes_on : {A : Type 0} (p : Part M A) → ((gs : List Fun) (cs : List Caller) → Steady gs cs p) → (m : Moment M)
        (l : A → Moment M → Act (Moment M) Ending) → Holds m
        → ((x : A) (t : Now M) → Holds (record m { now = t }) → After (l x (record m { now = t })))
        → After (doing p m l)
    goes_on p s m l h f =
        after (functions_of m.work) m.callers p (s (functions_of m.work) m.callers) m l h.0 (λ x t k. f x t (k, h.1))

    serve_kept : (p : Pos) (service : Service) (vs : List Value) (m : Moment M) → Holds m
        → After (serve ops funs p service vs m)
    serve_kept p Put_char vs m h = h
    serve_kept p Get_char vs m h = λ b. h
    serve_kept p Malloc vs m h =
        goes_on (allocate ops p (number_of (first_of vs)))
        (λ gs cs. steady_allocate gs cs p (number_of (first_of vs))) m (λ v t. Goes (with_value v t)) h (λ x t k. k)
    serve_kept p Exit vs m h = tt
    serve_kept p Address vs m h =
        goes_on (ask p (λ s. on_ok ops (λ a. Ok (value.Int a)) (ops.address s (first_of vs))))
        (λ gs cs. steady_ask gs cs p _) m (λ v t. Goes (with_value v t)) h (λ x t k. k)
    serve_kept p (Bounds exact) vs m h =
        goes_on (ask p (λ s. ops.narrow s (first_of vs) (number_of (second_of vs)) exact))
        (λ gs cs. steady_ask gs cs p _) m (λ v t. Goes (with_value v t)) h (λ x t k. k)
    serve_kept p (Works work) vs m h =
        goes_on (ask p (λ s. ops.work s work (first_of vs) (second_of vs)))
        (λ gs cs. steady_ask gs cs p _) m (λ v t. Goes (with_value v t)) h (λ x t k. k)

    finished_kept : (e : Ex) (m : Moment M) → Holds m → After (finished ops funs e m)
    finished_kept e m h =
        goes_on (finish ops funs e m.values m.places) (λ gs cs. steady_finish gs cs e m.values m.places)
        (record m { values = values_behind ops funs e m.values; places = places_behind ops funs e m.places })
        (λ v t. Goes (with_value v t)) h (λ x t k. k)

    finish_kept : (e : Ex) (m : Moment M) → Holds m → After (finish_item ops funs e m)
    finish_kept (Call p fit e args) m h = call_kept p fit (count_of args) m h
    finish_kept (Library p service args) m h =
        serve_kept p service (turned (count_of args) m.values [])
        (record m { values = beyond (count_of args) m.values }) h
    finish_kept e m h = finished_kept e m h

    finish_place_kept : (e : Ex) (m : Moment M) → Holds m → After (finish_place ops funs e m)
    finish_place_kept (Member p offset e) m h =
        goes_on (ask p (λ s. ops.offset s (capability_of (first_place m.places)) offset))
        (λ gs cs. steady_ask gs cs p _) (less_place m) (λ v t. Goes (with_place (At p v) t)) h (λ x t k. k)
    finish_place_kept (Copy p bytes unit a b) m h =
        goes_on (copy ops p bytes unit (first_place m.places) (first_place (behind m.places)))
        (λ gs cs. steady_copy gs cs p bytes unit (first_place m.places) (first_place (behind m.places)))
        (less_place (less_place m)) (λ _ t. Goes (with_place (first_place (behind m.places)) t)) h (λ x t k. k)
    finish_place_kept _ m h = h

    -- ---- choices

    chosen_kept : (e : Ex) (c : Bool) (m : Moment M) → Holds m → Holds (chosen ops funs e c m)
    chosen_kept (And p j k a b) true m h = (h.0, (tt, (tt, h.1)))
    chosen_kept (And p j k a b) false m h = h
    chosen_kept (Or p j k a b) true m h = h
    chosen_kept (Or p j k a b) false m h = (h.0, (tt, (tt, h.1)))
    chosen_kept (Conditional p k e a b) true m h = (h.0, (tt, h.1))
    chosen_kept (Conditional p k e a b) false m h = (h.0, (tt, h.1))
    chosen_kept _ c m h = h

    tested_then : (p : Pos) (k : Kind) (m : Moment M) (l : Bool → Moment M → Act (Moment M) Ending) → Holds m
        → ((c : Bool) (t : Now M) → Holds (record m { values = behind m.values; now = t })
        → After (l c (record m { values = behind m.values; now = t })))
        → After (doing (test ops p k (first_of m.values)) (less_value m) l)
    tested_then p k m l h f =
        goes_on (test ops p k (first_of m.values)) (λ gs cs. steady_test gs cs p k (first_of m.values)) (less_value m) l
        h f

    choose_kept : (e : Ex) (m : Moment M) → Holds m → After (choose_item ops funs e m)
    choose_kept (And p j k a b) m h =
        tested_then p j m (λ c t. Goes (chosen ops funs (And p j k a b) c t)) h
        (λ c t i. chosen_kept (And p j k a b) c (record m { values = behind m.values; now = t }) i)
    choose_kept (Or p j k a b) m h =
        tested_then p j m (λ c t. Goes (chosen ops funs (Or p j k a b) c t)) h
        (λ c t i. chosen_kept (Or p j k a b) c (record m { values = behind m.values; now = t }) i)
    choose_kept (Conditional p k e a b) m h =
        tested_then p k m (λ c t. Goes (chosen ops funs (Conditional p k e a b) c t)) h
        (λ c t i. chosen_kept (Conditional p k e a b) c (record m { values = behind m.values; now = t }) i)
    choose_kept _ m h = h

    either_place : (a b : Ex) (m : Moment M) (c : Bool) → Holds m
        → Holds (if c then machine.one (Designate a) m else machine.one (Designate b) m)
    either_place a b m true h = (h.0, (tt, h.1))
    either_place a b m false h = (h.0, (tt, h.1))

    choose_place_kept : (e : Ex) (m : Moment M) → Holds m → After (choose_place ops funs e m)
    choose_place_kept (Conditional p k e a b) m h =
        tested_then p k m (λ c t. Goes (if c then machine.one (Designate a) t else machine.one (Designate b) t)) h
        (λ c t i. either_place a b (record m { values = behind m.values; now = t }) c i)
    choose_place_kept _ m h = h

    decide_kept : (e : Ex) (m : Moment M) → Holds m → After (decide ops funs e m)
    decide_kept (And p j k a b) m h = tested_then p k m (λ c t. Goes (with_value (truth c) t)) h (λ c t i. i)
    decide_kept (Or p j k a b) m h = tested_then p k m (λ c t. Goes (with_value (truth c) t)) h (λ c t i. i)
    decide_kept _ m h = h

    -- ---- statements

    jumped_kept : (f : Flow) (is : List Item) (m : Moment M) → Holds_in is m → After (jumped ops funs f is m)
    jumped_kept flow.Goes is m h = h
    jumped_kept Breaks [] m h = h
    jumped_kept Continues [] m h = h
    jumped_kept (Returns v) [] m h = h
    jumped_kept Breaks (Leave ds ∷ is) m h =
        after (functions_of is) m.callers (leave ops ds) (steady_leave (functions_of is) m.callers ds) m
        (λ _ t. jumped ops funs Breaks is t) h.0 (λ x t k. jumped_kept Breaks is (record m { now = t }) (k, h.1.1))
    jumped_kept Continues (Leave ds ∷ is) m h =
        after (functions_of is) m.callers (leave ops ds) (steady_leave (functions_of is) m.callers ds) m
        (λ _ t. jumped ops funs Continues is t) h.0
        (λ x t k. jumped_kept Continues is (record m { now = t }) (k, h.1.1))
    jumped_kept (Returns v) (Leave ds ∷ is) m h =
        after (functions_of is) m.callers (leave ops ds) (steady_leave (functions_of is) m.callers ds) m
        (λ _ t. jumped ops funs (Returns v) is t) h.0
        (λ x t k. jumped_kept (Returns v) is (record m { now = t }) (k, h.1.1))
    jumped_kept Breaks (Again l ∷ is) m h = (h.0, h.1.1)
    jumped_kept Breaks (Switch_end ∷ is) m h = (h.0, h.1.1)
    jumped_kept Continues (Again l ∷ is) m h = h
    jumped_kept Breaks (Leave_function first g ∷ is) m h = h
    jumped_kept Continues (Leave_function first g ∷ is) m h = h
    jumped_kept (Returns v) (Leave_function first g ∷ is) m h =
        closed_kept first g v m.callers (record m { work = is }) refl h.0 h.1.1
    jumped_kept Breaks (i ∷ is) m h = jumped_kept Breaks is m (h.0, h.1.1)
    jumped_kept Continues (i ∷ is) m h = jumped_kept Continues is m (h.0, h.1.1)
    jumped_kept (Returns v) (i ∷ is) m h = jumped_kept (Returns v) is m (h.0, h.1.1)

    enters : (ds : List Declared) (m : Moment M) (l : Moment M → Act (Moment M) Ending)
        → AllDeclaredFit globals functions (locals_in (functions_of m.work)) ds → Holds m
        → ((t : Now M) → Holds (record m { now = t }) → After (l (record m { now = t })))
        → After (doing (enter ops ds) m (λ _ t. l t))
    enters ds m l f h g =
        after (functions_of m.work) m.callers (enter ops ds) (steady_enter (functions_of m.work) m.callers ds f) m
        (λ _ t. l t) h.0 (λ x t k. g t (k, h.1))

    execute_kept : (a : St) (m : Moment M) → DoesFit globals functions (locals_in (functions_of m.work)) a → Holds m
        → After (execute ops funs a m)
    execute_kept (Do e) m f h = (h.0, (tt, (tt, h.1)))
    execute_kept (Give x e) m f h = (h.0, (tt, (tt, h.1)))
    execute_kept (Init p local offset k e) m f h = (h.0, (tt, (tt, h.1)))
    execute_kept (Fill p local offset bytes unit e) m f h = (h.0, (tt, (tt, h.1)))
    execute_kept (Block ds ss) m f h =
        enters ds m (λ t. Goes (machine.two (Rest ss) (Leave ds) t)) f.0 h (λ t k. (k.0, (f.1, (tt, k.1))))
    execute_kept (If p k e a b) m f h = (h.0, (tt, (f, h.1)))
    execute_kept (While p k e b) m f h = (h.0, (f.1, h.1))
    execute_kept (Do_while p k b e) m f h = (h.0, (f.1, (f.1, h.1)))
    execute_kept (For ds first t u b) m f h =
        enters ds m (λ r. Goes (machine.three (Rest first) (Test (Before t u b)) (Leave ds) r)) f.0 h
        (λ t k. (k.0, (f.1, (f.4, (tt, k.1)))))
    execute_kept (Switch p k e ds ls ss) m f h = (h.0, (tt, (f, h.1)))
    execute_kept Break m f h = jumped_kept Breaks m.work m h
    execute_kept Continue m f h = jumped_kept Continues m.work m h
    execute_kept (Return None) m f h = jumped_kept (Returns nothing) m.work m h
    execute_kept (Return (Some e)) m f h = (h.0, (tt, (tt, h.1)))
    execute_kept Empty m f h = h

    proceed_kept : (ss : Sts) (m : Moment M) → DoFit globals functions (locals_in (functions_of m.work)) ss → Holds m
        → After (proceed ops funs ss m)
    proceed_kept End m f h = h
    proceed_kept (Seq a ss) m f h = (h.0, (f.0, (f.1, h.1)))

    initialize_kept : (a : St) (m : Moment M) → Holds m → After (initialize ops funs a m)
    initialize_kept (Give x e) m h =
        goes_on (set_variable x (Some (first_of m.values)))
        (λ gs cs. steady_set_variable gs cs x (Some (first_of m.values))) (less_value m) (λ _ t. Goes t) h (λ x t k. k)
    initialize_kept (Init p local offset k e) m h =
        goes_on (λ n. next_of (part_of_local ops p local offset n) (λ to. store ops k to (first_of m.values)))
        (λ gs cs. bind gs cs (part_of_local ops p local offset) (λ to. store ops k to (first_of m.values))
        (steady_part gs cs p local offset) (λ to. steady_store gs cs k to (first_of m.values)))
        (less_value m) (λ _ t. Goes t) h (λ x t i. i)
    initialize_kept (Fill p local offset bytes unit e) m h =
        goes_on (λ n. next_of (part_of_local ops p local offset n)
        (λ to. copy ops p bytes unit (first_place m.places) to))
        (λ gs cs. bind gs cs (part_of_local ops p local offset)
        (λ to. copy ops p bytes unit (first_place m.places) to) (steady_part gs cs p local offset)
        (λ to. steady_copy gs cs p bytes unit (first_place m.places) to))
        (less_place m) (λ _ t. Goes t) h (λ x t i. i)
    initialize_kept _ m h = h

    abbrev Does : Moment M → St → Type 0
    Does m a = DoesFit globals functions (locals_in (functions_of m.work)) a

    either_branch : (a b : St) (m : Moment M) (c : Bool) → Does m a → Does m b → Holds m
        → Holds (if c then machine.one (Execute a) m else machine.one (Execute b) m)
    either_branch a b m true f g h = (h.0, (f, h.1))
    either_branch a b m false f g h = (h.0, (g, h.1))

    branch_kept : (a : St) (m : Moment M) → Does m a → Holds m → After (branch ops funs a m)
    branch_kept (If p k e a b) m f h =
        tested_then p k m (λ c t. Goes (if c then machine.one (Execute a) t else machine.one (Execute b) t)) h
        (λ c t i. either_branch a b (record m { values = behind m.values; now = t }) c f.1 f.2 i)
    branch_kept _ m f h = h

    abbrev Rounds : Moment M → Loop → Type 0
    Rounds m l = LoopFits (locals_in (functions_of m.work)) l

    at_test_kept : (l : Loop) (m : Moment M) → Rounds m l → Holds m → After (at_test ops funs l m)
    at_test_kept (Before None u b) m f h = (h.0, (f, (f, h.1)))
    at_test_kept (Before (Some t) u b) m f h = (h.0, (tt, (f, h.1)))
    at_test_kept (Behind p k e b) m f h = (h.0, (tt, (f, h.1)))

    turned_kept : (is : List Item) (m : Moment M) → Holds_in is m → After (turned_to ops funs is m)
    turned_kept is m h =
        after (functions_of is) m.callers turn (steady_turn (functions_of is) m.callers) m
        (λ _ t. Goes (record t { work = is })) h.0 (λ x t k. (k, h.1))

    round_kept : (t : Pos × Kind × Ex) (u : Option Ex) (b : St) (m : Moment M) (c : Bool) → Does m b → Holds m
        → Holds (if c then machine.two (Execute b) (Again (Before (Some t) u b)) m else m)
    round_kept t u b m true f h = (h.0, (f, (f, h.1)))
    round_kept t u b m false f h = h

    behind_kept : (p : Pos) (k : Kind) (e : Ex) (b : St) (m : Moment M) (c : Bool) → Does m b → Holds m
        → After (if c then turned_to ops funs (Execute b ∷ Again (Behind p k e b) ∷ m.work) m else Goes m)
    behind_kept p k e b m true f h =
        turned_kept (Execute b ∷ Again (Behind p k e b) ∷ m.work) m (h.0, (f, (f, h.1)))
    behind_kept p k e b m false f h = h

    tested_kept : (l : Loop) (m : Moment M) → Rounds m l → Holds m → After (tested ops funs l m)
    tested_kept (Before None u b) m f h = (h.0, (f, (f, h.1)))
    tested_kept (Before (Some t) u b) m f h =
        tested_then t.0 t.1 m (λ c r. Goes (if c then machine.two (Execute b) (Again (Before (Some t) u b)) r else r)) h
        (λ c n i. round_kept t u b (record m { values = behind m.values; now = n }) c f i)
    tested_kept (Behind p k e b) m f h =
        tested_then p k m
        (λ c r. if c then turned_to ops funs (Execute b ∷ Again (Behind p k e b) ∷ r.work) r else Goes r) h
        (λ c n i. behind_kept p k e b (record m { values = behind m.values; now = n }) c f i)

    again_kept : (l : Loop) (m : Moment M) → Rounds m l → Holds m → After (again ops funs l m)
    again_kept (Before t None b) m f h = turned_kept (Test (Before t None b) ∷ m.work) m (h.0, (f, h.1))
    again_kept (Before t (Some e) b) m f h = (h.0, (tt, (tt, (f, h.1))))
    again_kept (Behind p k e b) m f h = (h.0, (f, h.1))

    rest_fits : (n : ℕ) (ss : Sts) (j : ℕ) → DoFit globals functions n ss →
        DoFit globals functions n (execs_behind ss j)
    rest_fits n End j f = f
    rest_fits n (Seq a ss) zero f = f
    rest_fits n (Seq a ss) (suc j) f = rest_fits n ss j f.1

    to_label_kept : (ss : Sts) (ds : List Declared) (o : Option ℕ) (m : Moment M)
        → DoFit globals functions (locals_in (functions_of m.work)) ss → Holds m → Holds (to_label ops funs ss ds o m)
    to_label_kept ss ds None m f h = (h.0, (tt, h.1))
    to_label_kept ss ds (Some j) m f h =
        (h.0, (rest_fits (locals_in (functions_of m.work)) ss j f, (tt, (tt, h.1))))

    label_kept : (a : St) (m : Moment M) → Does m a → Holds m → After (choose_label ops funs a m)
    label_kept (Switch p k e ds ls ss) m f h =
        let gs = functions_of m.work in
        after gs m.callers
        (λ n. next_of (enter ops ds n) (λ _. find_label ops p k (first_of m.values) ls (default_of ls)))
        (bind gs m.callers (enter ops ds) (λ _. find_label ops p k (first_of m.values) ls (default_of ls))
        (steady_enter gs m.callers ds f.1)
        (λ _. steady_find_label gs m.callers p k (first_of m.values) ls (default_of ls)))
        (less_value m) (λ o t. Goes (to_label ops funs ss ds o t)) h.0
        (λ o t i. to_label_kept ss ds o (record m { values = behind m.values; now = t }) f.2 (i, h.1))
    label_kept _ m f h = h

    -- ---- acts

    act_on_kept : (i : Item) (m : Moment M) → Holds_in (i ∷ m.work) m → After (act_on ops funs i m)
    act_on_kept (Evaluate e) m h = evaluate_kept e m (h.0, h.1.1)
    act_on_kept (Designate e) m h = designate_kept e m (h.0, h.1.1)
    act_on_kept Drop m h = (h.0, h.1.1)
    act_on_kept (Finish e) m h = finish_kept e m (h.0, h.1.1)
    act_on_kept (Finish_place e) m h = finish_place_kept e m (h.0, h.1.1)
    act_on_kept (Choose e) m h = choose_kept e m (h.0, h.1.1)
    act_on_kept (Choose_place e) m h = choose_place_kept e m (h.0, h.1.1)
    act_on_kept (Decide e) m h = decide_kept e m (h.0, h.1.1)
    act_on_kept (Begin f) m h = opened_kept true f (slice_get funs f) refl [] m (h.0, h.1.1)
    act_on_kept (Leave_function first g) m h =
        after (g ∷ functions_of m.work) m.callers (at_end ops g.name g.at_end)
        (steady_at_end (g ∷ functions_of m.work) m.callers g.name g.at_end) m
        (λ v t. closed ops funs first g v t.callers t) h.0
        (λ v t k. closed_kept first g v m.callers (record m { now = t }) refl k h.1.1)
    act_on_kept (Execute a) m h = execute_kept a m h.1.0 (h.0, h.1.1)
    act_on_kept (Rest ss) m h = proceed_kept ss m h.1.0 (h.0, h.1.1)
    act_on_kept (Initialize a) m h = initialize_kept a m (h.0, h.1.1)
    act_on_kept (Branch a) m h = branch_kept a m h.1.0 (h.0, h.1.1)
    act_on_kept (Test l) m h = at_test_kept l m h.1.0 (h.0, h.1.1)
    act_on_kept (Tested l) m h = tested_kept l m h.1.0 (h.0, h.1.1)
    act_on_kept (Again l) m h = again_kept l m h.1.0 (h.0, h.1.1)
    act_on_kept (Turn l) m h = turned_kept (Test l ∷ m.work) m h
    act_on_kept (Choose_label a) m h = label_kept a m h.1.0 (h.0, h.1.1)
    act_on_kept Switch_end m h = (h.0, h.1.1)
    act_on_kept (Leave ds) m h =
        goes_on (leave ops ds) (λ gs cs. steady_leave gs cs ds) m (λ _ t. Goes t) (h.0, h.1.1) (λ x t k. k)
    act_on_kept Give_back m h = jumped_kept (Returns (first_of m.values)) m.work (less_value m) (h.0, h.1.1)

    act_kept : (m : Moment M) → Holds m → After (act ops funs m)
    unfolding act
    act_kept m h = by m.work refl h
      where
        by : (is : List Item) → m.work ≡ is → Holds_in is m → After (act_of ops funs is m)
        by [] e i = tt
        by (j ∷ is) e i = act_on_kept j (record m { work = is }) i

    -- ---- runs

    act_in_kept : (w : World) (s : Moment M) (d : Done) (next : Moment M → Done → Stopped (Moment M) Ending)
        (a : Act (Moment M) Ending) → Holds s → After a
        → ((t : Moment M) (d' : Done) → Holds t → Holds (next t d').state) → Holds (act_in limits w s d next a).state
    act_in_kept w s d next (Goes t) h i f = f t d i
    act_in_kept w s d next (Puts b t) h i f = by (fails_after w.failing_put (length d.output))
      where
        by : (c : Bool) → Holds (if c then stopped s d limits.write_fault else next t (with_put d b)).state
        by true = h
        by false = f t (with_put d b) i
    act_in_kept w s d next (Reads to) h i f = by (fails_after w.failing_read d.reads)
      where
        by : (c : Bool)
            → Holds (if c then stopped s d limits.read_fault
            else next (to (slice_get w.bytes d.reads)) (with_read d)).state
        by true = h
        by false = f (to (slice_get w.bytes d.reads)) (with_read d) (i (slice_get w.bytes d.reads))
    act_in_kept w s d next (Ends e) h i f = h

    pub run_kept : (w : World) (n : ℕ) (s : Moment M) (d : Done) → Holds s
        → Holds (run limits (act ops funs) w n s d).state
    unfolding run
    run_kept w zero s d h = h
    run_kept w (suc n) s d h =
        act_in_kept w s d (run limits (act ops funs) w n) (act ops funs s) h (act_kept s h)
        (λ t d' i. run_kept w n t d' i)
