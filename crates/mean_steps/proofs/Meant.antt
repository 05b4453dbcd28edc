-- What the work that is left means, in the words of the meaning.
use Rattle.std.proofs.Common.{ℕ, suc, ◌%◌, Bool, true, false, List, [], ◌∷◌, Option, Some, None}
use Rattle.std.specs.Prelude.{not, if◌then◌else◌, length, slice_get}
use Rattle.ck_base.specs.Runs.{Act, Goes, Puts, Reads, Ends, with_put, with_read}
use Rattle.ck_base.specs.World.{World, Done, fails_after}
use Rattle.ck_base.specs.declared.positions.Pos.{Pos}
use Rattle.obj_mem.specs.Values.{Value}
use Rattle.obj_mem.specs.declared.ending.Ending.{Ending}
use Rattle.obj_mem.specs.declared.ending.Ending.TheVariants as ending
use Rattle.cheri_c_sem.specs.Kinds.{Kind, nothing, number_of, truth}
use Rattle.cheri_c_sem.specs.Operations.{Operations, convert_by, compare_by}
use Rattle.cheri_c_sem.specs.Steps.{State, Fate, Then, ◌>>=◌, ◌>>◌, give, over, ask, choose, turn, set_variable}
use Rattle.cheri_c_sem.specs.Tree.{Ex, Load, Pointer_to, Convert, Unary, Not, Binary, Compare, And, Or, Conditional}
use Rattle.cheri_c_sem.specs.Tree.{Assign, Copy, Compound, Call, Library, Deref, Member, St, Give, Init, Fill, If}
use Rattle.cheri_c_sem.specs.Tree.{Switch, Fun}
use Rattle.cheri_c_sem.specs.Meaning.{Place, At, capability_of, nowhere, first_of, second_of, operate_by, sign_by, load}
use Rattle.cheri_c_sem.specs.Meaning.{store, copy, point_to, test, called, serve, value_of, place_of}
use Rattle.cheri_c_sem.specs.Statements.{Flow, Breaks, Continues, Returns, after_body, loop, repeat, part_of_local}
use Rattle.cheri_c_sem.specs.Statements.{leave, switch_on, test_of, step_of, exec, execs, execs_from}
use Rattle.cheri_c_sem.specs.Statements as flow
use Rattle.cheri_c_sem.specs.Calls.{at_end, close}
use Rattle.cheri_c_sem.specs.Depth.{deep}
use Rattle.mean_steps.specs.Machine.{Loop, Before, Behind, Item, Evaluate, Designate, Drop, Finish, Finish_place}
use Rattle.mean_steps.specs.Machine.{Choose, Choose_place, Decide, Begin, Leave_function, Execute, Rest, Initialize}
use Rattle.mean_steps.specs.Machine.{Branch, Test, Tested, Again, Turn, Choose_label, Switch_end, Leave, Give_back}
use Rattle.mean_steps.specs.Machine.{Caller, Moment, behind, first_place, turned, beyond, count_of, values_behind}
use Rattle.mean_steps.specs.Machine.{places_behind}
use Rattle.mean_steps.proofs.Alike.{state_of}

module _ {M : Type 0} (ops : Operations M) (w : World) (funs : List Fun) where
  abbrev pub meant_call : ℕ → List Value → Then M Value
  meant_call = deep ops w funs

  -- what is left of a run, from the values and places that stand ready, the calls in progress and a state
  abbrev pub Left : Type 0
  Left = List Value → List Place → List Caller → State M → Fate

  -- ---- expressions

  abbrev pub finish_meant : Ex → List Value → List Place → Then M Value
  finish_meant (Load k e) vs ps = load ops w k (first_place ps)
  finish_meant (Pointer_to p n e) vs ps = point_to ops w p n (first_place ps)
  finish_meant (Convert p old new plain e) vs ps = ask p (λ m. convert_by ops m old new (first_of vs))
  finish_meant (Unary p sign k e) vs ps = ask p (λ m. sign_by ops w sign k m (first_of vs))
  finish_meant (Not p k e) vs ps = do
    b ← test ops w p k (first_of vs)
    give (truth (not b))
  finish_meant (Binary p op a b) vs ps = ask p (λ m. operate_by ops w op m (second_of vs) (first_of vs))
  finish_meant (Compare p op k a b) vs ps = do
    r ← ask p (λ m. compare_by ops m op k (second_of vs) (first_of vs))
    give (truth r)
  finish_meant (Assign k a b) vs ps = do
    store ops w k (first_place ps) (first_of vs)
    give (first_of vs)
  finish_meant (Copy p bytes unit a b) vs ps = do
    copy ops w p bytes unit (first_place ps) (first_place (behind ps))
    give nothing
  finish_meant (Compound p op kind computed old a b) vs ps = do
    x ← load ops w kind (first_place ps)
    v ← ask p (λ m. convert_by ops m kind computed x)
    r ← ask p (λ m. operate_by ops w op m v (first_of vs))
    z ← ask p (λ m. convert_by ops m computed kind r)
    store ops w kind (first_place ps) z
    give (if old then x else z)
  finish_meant (Call p fits e args) vs ps = do
    f ← called ops w p fits (first_of (beyond (count_of args) vs))
    turn
    v ← meant_call f (turned (count_of args) vs [])
    turn
    give v
  finish_meant (Library p service args) vs ps = serve ops w p service (turned (count_of args) vs [])
  finish_meant _ vs ps = give nothing

  abbrev pub values_left : Ex → List Value → List Value
  values_left (Call p fits e args) vs = behind (beyond (count_of args) vs)
  values_left (Library p service args) vs = beyond (count_of args) vs
  values_left e vs = values_behind ops funs e vs

  abbrev pub place_meant : Ex → List Value → List Place → Then M Place
  place_meant (Deref p e) vs ps = give (At p (first_of vs))
  place_meant (Member p offset e) vs ps = do
    v ← ask p (λ m. ops.offset m (capability_of (first_place ps)) offset)
    give (At p v)
  place_meant (Copy p bytes unit a b) vs ps = do
    copy ops w p bytes unit (first_place ps) (first_place (behind ps))
    give (first_place (behind ps))
  place_meant _ vs ps = give nowhere

  abbrev pub place_values : Ex → List Value → List Value
  place_values (Deref p e) vs = behind vs
  place_values _ vs = vs

  abbrev pub place_places : Ex → List Place → List Place
  place_places (Member p offset e) ps = behind ps
  place_places (Copy p bytes unit a b) ps = behind (behind ps)
  place_places _ ps = ps

  abbrev pub choose_meant : Ex → Value → Then M Value
  choose_meant (And p j k a b) x = do
    c ← test ops w p j x
    choose c (do
      y ← value_of ops w meant_call b
      d ← test ops w p k y
      give (truth d)) (give (truth false))
  choose_meant (Or p j k a b) x = do
    c ← test ops w p j x
    choose c (give (truth true)) (do
      y ← value_of ops w meant_call b
      d ← test ops w p k y
      give (truth d))
  choose_meant (Conditional p k c a b) x = do
    d ← test ops w p k x
    choose d (value_of ops w meant_call a) (value_of ops w meant_call b)
  choose_meant _ x = give nothing

  abbrev pub choose_place_meant : Ex → Value → Then M Place
  choose_place_meant (Conditional p k c a b) x = do
    d ← test ops w p k x
    choose d (place_of ops w meant_call a) (place_of ops w meant_call b)
  choose_place_meant _ x = give nowhere

  abbrev pub decide_meant : Ex → Value → Then M Value
  decide_meant (And p j k a b) y = do
    d ← test ops w p k y
    give (truth d)
  decide_meant (Or p j k a b) y = do
    d ← test ops w p k y
    give (truth d)
  decide_meant _ y = give nothing

  -- ---- statements

  abbrev pub initialize_meant : St → List Value → List Place → Then M (Unit {0})
  initialize_meant (Give x e) vs ps = set_variable x (Some (first_of vs))
  initialize_meant (Init p local offset k e) vs ps = do
    to ← part_of_local ops w p local offset
    store ops w k to (first_of vs)
  initialize_meant (Fill p local offset bytes unit e) vs ps = do
    to ← part_of_local ops w p local offset
    copy ops w p bytes unit (first_place ps) to
  initialize_meant _ vs ps = give tt

  abbrev pub initialize_values : St → List Value → List Value
  initialize_values (Give x e) vs = behind vs
  initialize_values (Init p local offset k e) vs = behind vs
  initialize_values _ vs = vs

  abbrev pub initialize_places : St → List Place → List Place
  initialize_places (Fill p local offset bytes unit e) ps = behind ps
  initialize_places _ ps = ps

  abbrev pub branch_meant : St → Value → Then M Flow
  branch_meant (If p k e a b) v = do
    c ← test ops w p k v
    choose c (exec ops w meant_call a) (exec ops w meant_call b)
  branch_meant _ v = give flow.Goes

  abbrev pub for_loop : Option (Pos × Kind × Ex) → Option Ex → St → Then M Flow
  for_loop t u b = λ s. loop (suc s.left) (test_of ops w meant_call t) (exec ops w meant_call b)
      (step_of ops w meant_call u) s

  abbrev pub do_loop : Pos → Kind → Ex → St → Then M Flow
  do_loop p k e b = λ s. repeat (suc s.left) (exec ops w meant_call b) (test_of ops w meant_call (Some (p, k, e))) s

  -- a loop whose body was left, whose test gave a truth, and at its test
  abbrev pub again_meant : Loop → Then M Flow
  again_meant (Before t u b) = step_of ops w meant_call u >> (turn >> for_loop t u b)
  again_meant (Behind p k e b) = do
    c ← test_of ops w meant_call (Some (p, k, e))
    choose c (turn >> do_loop p k e b) (give flow.Goes)

  abbrev pub after_test : Loop → Bool → Then M Flow
  after_test (Before t u b) c = choose c (do
    f ← exec ops w meant_call b
    after_body f (again_meant (Before t u b))) (give flow.Goes)
  after_test (Behind p k e b) c = choose c (turn >> do_loop p k e b) (give flow.Goes)

  abbrev pub tested_meant : Loop → Value → Then M Flow
  tested_meant (Before None u b) v = after_test (Before None u b) true
  tested_meant (Before (Some t) u b) v = do
    c ← test ops w t.0 t.1 v
    after_test (Before (Some t) u b) c
  tested_meant (Behind p k e b) v = do
    c ← test ops w p k v
    after_test (Behind p k e b) c

  abbrev pub test_meant : Loop → Then M Flow
  test_meant (Before t u b) = for_loop t u b
  test_meant (Behind p k e b) = again_meant (Behind p k e b)

  abbrev pub label_meant : St → Value → Then M Flow
  label_meant (Switch p k e ds ls ss) v = switch_on ops w p k v ds ls (λ n. execs_from ops w meant_call ss n)
  label_meant _ v = give flow.Goes

  -- ---- calls

  abbrev pub back_to : Caller → Then M (Unit {0})
  back_to c = λ s k. k tt (record s { vars = c.vars; first = c.first; frame = c.frame })

  abbrev pub turn_to : (first : Bool) → Then M (Unit {0})
  turn_to true = give tt
  turn_to false = turn

  abbrev pub closing : (first : Bool) → Fun → List Caller → (List Caller → State M → Fate) → State M → Fate
  closing first g [] next = λ s. (close ops w g >> turn_to first) s (λ _ t. next [] t)
  closing first g (c ∷ cs) next = λ s. (close ops w g >> (back_to c >> turn_to first)) s (λ _ t. next cs t)

  -- ---- work

  -- what follows work that is done, and what follows jumps
  pub record Ways : Type 0 where
    pub onward : Left
    pub breaks : Left
    pub continues : Left
    pub returns : Value → Left

  abbrev pub way : Ways → Flow → Left
  way r flow.Goes = r.onward
  way r Breaks = r.breaks
  way r Continues = r.continues
  way r (Returns v) = r.returns v

  abbrev pub onward : Item → Ways → Left
  onward (Evaluate e) r vs ps cs s = value_of ops w meant_call e s (λ v t. r.onward (v ∷ vs) ps cs t)
  onward (Designate e) r vs ps cs s = place_of ops w meant_call e s (λ p t. r.onward vs (p ∷ ps) cs t)
  onward Drop r vs ps cs s = r.onward (behind vs) ps cs s
  onward (Finish e) r vs ps cs s =
      finish_meant e vs ps s (λ v t. r.onward (v ∷ values_left e vs) (places_behind ops funs e ps) cs t)
  onward (Finish_place e) r vs ps cs s =
      place_meant e vs ps s (λ p t. r.onward (place_values e vs) (p ∷ place_places e ps) cs t)
  onward (Choose e) r vs ps cs s = choose_meant e (first_of vs) s (λ v t. r.onward (v ∷ behind vs) ps cs t)
  onward (Choose_place e) r vs ps cs s =
      choose_place_meant e (first_of vs) s (λ p t. r.onward (behind vs) (p ∷ ps) cs t)
  onward (Decide e) r vs ps cs s = decide_meant e (first_of vs) s (λ v t. r.onward (v ∷ behind vs) ps cs t)
  onward (Begin f) r vs ps cs s = meant_call f [] s (λ v t. r.onward (v ∷ vs) ps cs t)
  onward (Leave_function first g) r vs ps cs s =
      at_end ops w g.name g.at_end s (λ v t. closing first g cs (λ c u. r.onward (v ∷ vs) ps c u) t)
  onward (Execute a) r vs ps cs s = exec ops w meant_call a s (λ f t. way r f vs ps cs t)
  onward (Rest ss) r vs ps cs s = execs ops w meant_call ss s (λ f t. way r f vs ps cs t)
  onward (Initialize a) r vs ps cs s =
      initialize_meant a vs ps s (λ _ t. r.onward (initialize_values a vs) (initialize_places a ps) cs t)
  onward (Branch a) r vs ps cs s = branch_meant a (first_of vs) s (λ f t. way r f (behind vs) ps cs t)
  onward (Test l) r vs ps cs s = test_meant l s (λ f t. way r f vs ps cs t)
  onward (Tested l) r vs ps cs s = tested_meant l (first_of vs) s (λ f t. way r f (behind vs) ps cs t)
  onward (Again l) r vs ps cs s = again_meant l s (λ f t. way r f vs ps cs t)
  onward (Turn l) r vs ps cs s = (turn >> test_meant l) s (λ f t. way r f vs ps cs t)
  onward (Choose_label a) r vs ps cs s = label_meant a (first_of vs) s (λ f t. way r f (behind vs) ps cs t)
  onward Switch_end r vs ps cs s = r.onward vs ps cs s
  onward (Leave ds) r vs ps cs s = leave ops w ds s (λ _ t. r.onward vs ps cs t)
  onward Give_back r vs ps cs s = r.returns (first_of vs) (behind vs) ps cs s

  -- a jump past an item
  abbrev pub breaks : Item → Ways → Left
  breaks (Leave ds) r = λ vs ps cs s. leave ops w ds s (λ _ t. r.breaks vs ps cs t)
  breaks (Again l) r = r.onward
  breaks Switch_end r = r.onward
  breaks (Leave_function first g) r = onward (Leave_function first g) r
  breaks i r = r.breaks

  abbrev pub continues : Item → Ways → Left
  continues (Leave ds) r = λ vs ps cs s. leave ops w ds s (λ _ t. r.continues vs ps cs t)
  continues (Again l) r = onward (Again l) r
  continues (Leave_function first g) r = onward (Leave_function first g) r
  continues i r = r.continues

  abbrev pub returns : Item → Ways → Value → Left
  returns (Leave ds) r v = λ vs ps cs s. leave ops w ds s (λ _ t. r.returns v vs ps cs t)
  returns (Leave_function first g) r v = λ vs ps cs s. closing first g cs (λ c t. r.onward (v ∷ vs) ps c t) s
  returns i r v = r.returns v

  abbrev pub exit : Left
  exit vs ps cs s = over (ending.Exit (number_of (first_of vs) % 256)) s

  abbrev pub ways : List Item → Ways
  ways [] = record { onward = exit; breaks = exit; continues = exit; returns = λ v. exit }
  ways (i ∷ is) = record {
    onward = onward i (ways is);
    breaks = breaks i (ways is);
    continues = continues i (ways is);
    returns = returns i (ways is);
  }

  -- what a moment comes to
  abbrev pub meant_of : Moment M → Done → Fate
  meant_of m d = (ways m.work).onward m.values m.places m.callers (state_of m.now d)

  -- what an act comes to
  abbrev pub acted : Done → Act (Moment M) Ending → Fate
  acted d (Goes m) = meant_of m d
  acted d (Puts b m) = if fails_after w.failing_put (length d.output)
      then record { done = d; ending = ending.WriteFault } else meant_of m (with_put d b)
  acted d (Reads to) = if fails_after w.failing_read d.reads then record { done = d; ending = ending.ReadFault }
      else meant_of (to (slice_get w.bytes d.reads)) (with_read d)
  acted d (Ends e) = record { done = d; ending = e }
