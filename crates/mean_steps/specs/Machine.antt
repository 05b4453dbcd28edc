-- The meaning of programs as a machine with a small step. It keeps a list of the work that is left, the values and the
-- places that stand ready for it, and the calls in progress.
use Rattle.std.specs.Prelude.{ℕ, zero, suc, ◌+◌, ◌%◌, not, Bool, true, false, List, [], ◌∷◌, Option, Some, None, Ok}
use Rattle.std.specs.Prelude.{if◌then◌else◌, slice_get}
use Rattle.ck_base.specs.World.{World}
use Rattle.ck_base.specs.Runs.{Act, Goes, Puts, Reads, Ends, Limits}
use Rattle.ck_base.specs.declared.positions.Pos.{Pos}
use Rattle.cap_ops.specs.Permissions.{data_permissions}
use Rattle.obj_mem.specs.Values.{Value}
use Rattle.obj_mem.specs.Values as value
use Rattle.obj_mem.specs.declared.ending.Ending.{Ending}
use Rattle.obj_mem.specs.declared.ending.Ending.TheVariants as ending
use Rattle.cheri_c_sem.specs.Kinds.{Kind, null_at, nothing, number_of, truth}
use Rattle.cheri_c_sem.specs.Operations.{Operations, on_ok, convert_by, compare_by}
use Rattle.cheri_c_sem.specs.Steps.{byte_or_end}
use Rattle.cheri_c_sem.specs.Tree.{Service, Put_char, Get_char, Malloc, Exit, Address, Bounds, Works, Ex, Number, Null}
use Rattle.cheri_c_sem.specs.Tree.{Load, Aggregate, Pointer_to, Convert, Discard, Unary, Not, Binary, Compare, And, Or}
use Rattle.cheri_c_sem.specs.Tree.{Conditional, Comma, Assign, Copy, Compound, Call, Library, Variable, Local, Object}
use Rattle.cheri_c_sem.specs.Tree.{Function, Deref, Member, Exs, Nil, Cons, Declared, St, Do, Give, Init, Fill, Block}
use Rattle.cheri_c_sem.specs.Tree.{If, While, Do_while, For, Switch, Break, Continue, Return, Empty, Sts, End, Seq, Fun}
use Rattle.cheri_c_sem.specs.Tree.{Program}
use Rattle.cheri_c_sem.specs.Meaning.{Place, In, At, capability_of, nowhere, first_of, second_of, operate_by, sign_by}
use Rattle.cheri_c_sem.specs.Statements as flow
use Rattle.cheri_c_sem.specs.Statements.{Flow, default_of}
use Rattle.cheri_c_sem.specs.Calls.{start}
use Rattle.mean_steps.specs.Parts.{Now, Came, On, Over, Part, ◌>>=◌, ◌>>◌, give, turn, ask, set_variable, load, store}
use Rattle.mean_steps.specs.Parts.{copy, point_to, part_of_local, test, allocate, enter, leave, find_label, called}
use Rattle.mean_steps.specs.Parts.{frame, pass, at_end, close}

-- A loop whose test, if it has one, stands before its body, and its step; and a `do` loop.
pub data Loop : Type 0 where
  Before : Option (Pos × Kind × Ex) → Option Ex → St → Loop
  Behind : Pos → Kind → Ex → St → Loop

-- A part of the work that is left.
pub data Item : Type 0 where
  -- the value of an expression goes on the values; the place that it designates on the places
  Evaluate : Ex → Item
  Designate : Ex → Item
  -- the value on top goes
  Drop : Item
  -- the operation of an expression, whose operands stand on top, gives its value, or its place
  Finish : Ex → Item
  Finish_place : Ex → Item
  -- the left operand of `&&` or `||`, or the condition of `?:`, stands on top
  Choose : Ex → Item
  Choose_place : Ex → Item
  -- the right operand of `&&` or `||` stands on top
  Decide : Ex → Item
  -- the first call, of function n
  Begin : ℕ → Item
  -- a function's body was left; whether its call is the first one
  Leave_function : (first : Bool) → Fun → Item
  -- a statement; statements one after another
  Execute : St → Item
  Rest : Sts → Item
  -- the value of an initialisation stands on top; of a struct or union, its place
  Initialize : St → Item
  -- the condition of an `if` stands on top
  Branch : St → Item
  -- a loop is at its test; its test stands on top; its body was left; its step was done
  Test : Loop → Item
  Tested : Loop → Item
  Again : Loop → Item
  Turn : Loop → Item
  -- what a `switch` is on stands on top; its body was left
  Choose_label : St → Item
  Switch_end : Item
  -- a block, a `for` or a `switch` was left
  Leave : List Declared → Item
  -- the value that is returned stands on top
  Give_back : Item

-- what is kept of a caller
pub record Caller : Type 0 where
  pub vars : List (Option Value)
  pub first : ℕ
  pub frame : ℕ

pub record Moment (M : Type 0) : Type 0 where
  pub work : List Item
  pub values : List Value
  pub places : List Place
  pub callers : List Caller
  pub now : Now M

-- what operations are in: none depends on it
abbrev pub no_world : World
no_world = record { bytes = []; failing_read = None; failing_put = None }

-- ---- lists with the next on top

abbrev pub behind : {A : Type 0} → List A → List A
behind [] = []
behind (x ∷ xs) = xs

abbrev pub first_place : List Place → Place
first_place [] = nowhere
first_place (p ∷ ps) = p

-- the first so many, the last one first, in front of others
abbrev pub turned : ℕ → List Value → List Value → List Value
turned zero vs others = others
turned (suc n) [] others = others
turned (suc n) (v ∷ vs) others = turned n vs (v ∷ others)

abbrev pub beyond : ℕ → List Value → List Value
beyond zero vs = vs
beyond (suc n) [] = []
beyond (suc n) (v ∷ vs) = beyond n vs

abbrev pub count_of : Exs → ℕ
count_of Nil = 0
count_of (Cons e es) = suc (count_of es)

-- the arguments, the first one first, and then other work
abbrev pub before_arguments : Exs → List Item → List Item
before_arguments Nil is = is
before_arguments (Cons e es) is = Evaluate e ∷ before_arguments es is

abbrev pub execs_behind : Sts → ℕ → Sts
execs_behind End n = End
execs_behind (Seq a ss) zero = Seq a ss
execs_behind (Seq a ss) (suc n) = execs_behind ss n

module _ {M : Type 0} where
  abbrev pub one : Item → Moment M → Moment M
  one a m = record m { work = a ∷ m.work }

  abbrev pub two : Item → Item → Moment M → Moment M
  two a b m = record m { work = a ∷ b ∷ m.work }

  abbrev pub three : Item → Item → Item → Moment M → Moment M
  three a b c m = record m { work = a ∷ b ∷ c ∷ m.work }

  abbrev pub with_value : Value → Moment M → Moment M
  with_value v m = record m { values = v ∷ m.values }

  abbrev pub with_place : Place → Moment M → Moment M
  with_place p m = record m { places = p ∷ m.places }

  -- one value, one place less
  abbrev pub less_value : Moment M → Moment M
  less_value m = record m { values = behind m.values }

  abbrev pub less_place : Moment M → Moment M
  less_place m = record m { places = behind m.places }

  -- what follows a part
  abbrev pub done_in : {A : Type 0} → Moment M → (A → Moment M → Act (Moment M) Ending) → Came M A →
      Act (Moment M) Ending
  done_in m k (On x n) = k x (record m { now = n })
  done_in m k (Over e) = Ends e

  abbrev pub doing : {A : Type 0} → Part M A → Moment M → (A → Moment M → Act (Moment M) Ending) → Act (Moment M) Ending
  doing c m k = done_in m k (c m.now)

  abbrev pub caller_of : Now M → Caller
  caller_of n = record { vars = n.vars; first = n.first; frame = n.frame }

  -- back in the caller's state
  abbrev pub back : Caller → Part M (Unit {0})
  back c = λ n. On tt (record n { vars = c.vars; first = c.first; frame = c.frame })

  -- the turn behind a call; the first call has none
  abbrev pub turn_behind : (first : Bool) → Part M (Unit {0})
  turn_behind true = give tt
  turn_behind false = turn

module _ {M : Type 0} (ops : Operations M) (funs : List Fun) where
  -- ---- expressions

  -- what comes first
  abbrev pub evaluate : Ex → Moment M → Act (Moment M) Ending
  evaluate (Number n) m = Goes (with_value (value.Int n) m)
  evaluate (Null n) m = Goes (with_value (null_at n) m)
  evaluate (Load k e) m = Goes (two (Designate e) (Finish (Load k e)) m)
  evaluate (Aggregate e) m = Goes (two (Designate e) (Finish (Aggregate e)) m)
  evaluate (Pointer_to p n e) m = Goes (two (Designate e) (Finish (Pointer_to p n e)) m)
  evaluate (Convert p old new plain e) m = Goes (two (Evaluate e) (Finish (Convert p old new plain e)) m)
  evaluate (Discard e) m = Goes (two (Evaluate e) (Finish (Discard e)) m)
  evaluate (Unary p sign k e) m = Goes (two (Evaluate e) (Finish (Unary p sign k e)) m)
  evaluate (Not p k e) m = Goes (two (Evaluate e) (Finish (Not p k e)) m)
  evaluate (Binary p op a b) m = Goes (three (Evaluate a) (Evaluate b) (Finish (Binary p op a b)) m)
  evaluate (Compare p op k a b) m = Goes (three (Evaluate a) (Evaluate b) (Finish (Compare p op k a b)) m)
  evaluate (And p j k a b) m = Goes (two (Evaluate a) (Choose (And p j k a b)) m)
  evaluate (Or p j k a b) m = Goes (two (Evaluate a) (Choose (Or p j k a b)) m)
  evaluate (Conditional p k c a b) m = Goes (two (Evaluate c) (Choose (Conditional p k c a b)) m)
  evaluate (Comma a b) m = Goes (three (Evaluate a) Drop (Evaluate b) m)
  evaluate (Assign k a b) m = Goes (three (Designate a) (Evaluate b) (Finish (Assign k a b)) m)
  evaluate (Copy p bytes unit a b) m = Goes (three (Designate a) (Designate b) (Finish (Copy p bytes unit a b)) m)
  evaluate (Compound p op kind computed old a b) m =
      Goes (three (Designate a) (Evaluate b) (Finish (Compound p op kind computed old a b)) m)
  evaluate (Call p fits e args) m =
      Goes (record m { work = Evaluate e ∷ before_arguments args (Finish (Call p fits e args) ∷ m.work) })
  evaluate (Library p service args) m =
      Goes (record m { work = before_arguments args (Finish (Library p service args) ∷ m.work) })
  evaluate (Variable p x) m = Goes (with_value nothing m)
  evaluate (Local p n) m = Goes (with_value nothing m)
  evaluate (Object p object permissions) m = Goes (with_value nothing m)
  evaluate (Function p f) m = Goes (with_value (value.Fun f) m)
  evaluate (Deref p e) m = Goes (two (Evaluate e) (Finish (Deref p e)) m)
  evaluate (Member p offset e) m = Goes (two (Designate e) (Finish (Member p offset e)) m)

  abbrev pub designate : Ex → Moment M → Act (Moment M) Ending
  designate (Variable p x) m = Goes (with_place (In p x) m)
  designate (Local p n) m = Goes (with_place (At p (ops.whole m.now.mem (m.now.first + n) data_permissions)) m)
  designate (Object p object permissions) m = Goes (with_place (At p (ops.whole m.now.mem object permissions)) m)
  designate (Function p f) m = Goes (with_place (At p (value.Fun f)) m)
  designate (Deref p e) m = Goes (two (Evaluate e) (Finish_place (Deref p e)) m)
  designate (Member p offset e) m = Goes (two (Designate e) (Finish_place (Member p offset e)) m)
  designate (Aggregate e) m = Goes (one (Designate e) m)
  designate (Conditional p k c a b) m = Goes (two (Evaluate c) (Choose_place (Conditional p k c a b)) m)
  designate (Comma a b) m = Goes (three (Evaluate a) Drop (Designate b) m)
  designate (Copy p bytes unit a b) m =
      Goes (three (Designate a) (Designate b) (Finish_place (Copy p bytes unit a b)) m)
  designate _ m = Goes (with_place nowhere m)

  -- the value that an operation gives whose operands are these, the last one on top
  abbrev pub finish : Ex → List Value → List Place → Part M Value
  finish (Load k e) vs ps = load ops k (first_place ps)
  finish (Pointer_to p n e) vs ps = point_to ops p n (first_place ps)
  finish (Convert p old new plain e) vs ps = ask p (λ m. convert_by ops m old new (first_of vs))
  finish (Unary p sign k e) vs ps = ask p (λ m. sign_by ops no_world sign k m (first_of vs))
  finish (Not p k e) vs ps = do
    b ← test ops p k (first_of vs)
    give (truth (not b))
  finish (Binary p op a b) vs ps = ask p (λ m. operate_by ops no_world op m (second_of vs) (first_of vs))
  finish (Compare p op k a b) vs ps = do
    r ← ask p (λ m. compare_by ops m op k (second_of vs) (first_of vs))
    give (truth r)
  finish (Assign k a b) vs ps = do
    store ops k (first_place ps) (first_of vs)
    give (first_of vs)
  finish (Copy p bytes unit a b) vs ps = do
    copy ops p bytes unit (first_place ps) (first_place (behind ps))
    give nothing
  finish (Compound p op kind computed old a b) vs ps = do
    x ← load ops kind (first_place ps)
    v ← ask p (λ m. convert_by ops m kind computed x)
    r ← ask p (λ m. operate_by ops no_world op m v (first_of vs))
    z ← ask p (λ m. convert_by ops m computed kind r)
    store ops kind (first_place ps) z
    give (if old then x else z)
  finish _ vs ps = give nothing

  -- what stands behind its operands
  abbrev pub values_behind : Ex → List Value → List Value
  values_behind (Convert p old new plain e) vs = behind vs
  values_behind (Discard e) vs = behind vs
  values_behind (Unary p sign k e) vs = behind vs
  values_behind (Not p k e) vs = behind vs
  values_behind (Binary p op a b) vs = behind (behind vs)
  values_behind (Compare p op k a b) vs = behind (behind vs)
  values_behind (Assign k a b) vs = behind vs
  values_behind (Compound p op kind computed old a b) vs = behind vs
  values_behind (Deref p e) vs = behind vs
  values_behind _ vs = vs

  abbrev pub places_behind : Ex → List Place → List Place
  places_behind (Load k e) ps = behind ps
  places_behind (Aggregate e) ps = behind ps
  places_behind (Pointer_to p n e) ps = behind ps
  places_behind (Assign k a b) ps = behind ps
  places_behind (Copy p bytes unit a b) ps = behind (behind ps)
  places_behind (Compound p op kind computed old a b) ps = behind ps
  places_behind (Member p offset e) ps = behind ps
  places_behind _ ps = ps

  abbrev pub finished : Ex → Moment M → Act (Moment M) Ending
  finished e m = doing (finish e m.values m.places)
      (record m { values = values_behind e m.values; places = places_behind e m.places }) (λ v t. Goes (with_value v t))

  -- ---- calls and library functions

  -- a function's body, in a frame
  abbrev pub opened : (first : Bool) → ℕ → Option Fun → List Value → Moment M → Act (Moment M) Ending
  opened first f None vs m = doing (turn_behind first) m (λ _ t. Goes (with_value nothing t))
  opened first f (Some g) vs m =
      doing (frame ops (ops.enter f m.now.frame) f g >> pass ops g.name g.params vs)
      (record m { callers = caller_of m.now ∷ m.callers })
      (λ _ t. Goes (two (Execute g.body) (Leave_function first g) t))

  abbrev pub call : Pos → List Bool → ℕ → Moment M → Act (Moment M) Ending
  call p fits count m =
      doing (called ops p fits (first_of (beyond count m.values)) >>= λ f. turn >> give f)
      (record m { values = behind (beyond count m.values) })
      (λ f t. opened false f (slice_get funs f) (turned count m.values []) t)

  -- a function's locals end, its caller goes on, and a turn is used
  abbrev pub closed : (first : Bool) → Fun → Value → List Caller → Moment M → Act (Moment M) Ending
  closed first g v [] m = doing (close ops g >> turn_behind first) m (λ _ t. Goes (with_value v t))
  closed first g v (c ∷ cs) m =
      doing (close ops g >> (back c >> turn_behind first)) (record m { callers = cs }) (λ _ t. Goes (with_value v t))

  abbrev pub serve : Pos → Service → List Value → Moment M → Act (Moment M) Ending
  serve p Put_char vs m = Puts (number_of (first_of vs) % 256)
      (with_value (value.Int (number_of (first_of vs) % 256)) m)
  serve p Get_char vs m = Reads (λ b. with_value (byte_or_end b) m)
  serve p Malloc vs m = doing (allocate ops p (number_of (first_of vs))) m (λ v t. Goes (with_value v t))
  serve p Exit vs m = Ends (ending.Exit (number_of (first_of vs) % 256))
  serve p Address vs m = doing (ask p (λ s. on_ok ops (λ a. Ok (value.Int a)) (ops.address s (first_of vs)))) m
      (λ v t. Goes (with_value v t))
  serve p (Bounds exact) vs m =
      doing (ask p (λ s. ops.narrow s (first_of vs) (number_of (second_of vs)) exact)) m (λ v t. Goes (with_value v t))
  serve p (Works work) vs m =
      doing (ask p (λ s. ops.work s work (first_of vs) (second_of vs))) m (λ v t. Goes (with_value v t))

  abbrev pub finish_item : Ex → Moment M → Act (Moment M) Ending
  finish_item (Call p fits e args) m = call p fits (count_of args) m
  finish_item (Library p service args) m =
      serve p service (turned (count_of args) m.values []) (record m { values = beyond (count_of args) m.values })
  finish_item e m = finished e m

  abbrev pub finish_place : Ex → Moment M → Act (Moment M) Ending
  finish_place (Deref p e) m = Goes (with_place (At p (first_of m.values)) (less_value m))
  finish_place (Member p offset e) m =
      doing (ask p (λ s. ops.offset s (capability_of (first_place m.places)) offset)) (less_place m)
      (λ v t. Goes (with_place (At p v) t))
  finish_place (Copy p bytes unit a b) m =
      doing (copy ops p bytes unit (first_place m.places) (first_place (behind m.places))) (less_place (less_place m))
      (λ _ t. Goes (with_place (first_place (behind m.places)) t))
  finish_place _ m = Goes (with_place nowhere m)

  abbrev pub chosen : Ex → Bool → Moment M → Moment M
  chosen (And p j k a b) true m = two (Evaluate b) (Decide (And p j k a b)) m
  chosen (And p j k a b) false m = with_value (truth false) m
  chosen (Or p j k a b) true m = with_value (truth true) m
  chosen (Or p j k a b) false m = two (Evaluate b) (Decide (Or p j k a b)) m
  chosen (Conditional p k c a b) true m = one (Evaluate a) m
  chosen (Conditional p k c a b) false m = one (Evaluate b) m
  chosen _ c m = with_value nothing m

  abbrev pub choose_item : Ex → Moment M → Act (Moment M) Ending
  choose_item (And p j k a b) m =
      doing (test ops p j (first_of m.values)) (less_value m) (λ c t. Goes (chosen (And p j k a b) c t))
  choose_item (Or p j k a b) m =
      doing (test ops p j (first_of m.values)) (less_value m) (λ c t. Goes (chosen (Or p j k a b) c t))
  choose_item (Conditional p k c a b) m =
      doing (test ops p k (first_of m.values)) (less_value m) (λ d t. Goes (chosen (Conditional p k c a b) d t))
  choose_item _ m = Goes (with_value nothing (less_value m))

  abbrev pub choose_place : Ex → Moment M → Act (Moment M) Ending
  choose_place (Conditional p k c a b) m =
      doing (test ops p k (first_of m.values)) (less_value m)
      (λ d t. Goes (if d then one (Designate a) t else one (Designate b) t))
  choose_place _ m = Goes (with_place nowhere (less_value m))

  abbrev pub decide : Ex → Moment M → Act (Moment M) Ending
  decide (And p j k a b) m =
      doing (test ops p k (first_of m.values)) (less_value m) (λ d t. Goes (with_value (truth d) t))
  decide (Or p j k a b) m =
      doing (test ops p k (first_of m.values)) (less_value m) (λ d t. Goes (with_value (truth d) t))
  decide _ m = Goes (with_value nothing (less_value m))

  -- ---- statements

  -- A jump takes the work up to what takes it (C11 6.8.6). The blocks that are left by it end on the way
  abbrev pub jumped : Flow → List Item → Moment M → Act (Moment M) Ending
  jumped flow.Goes is m = Goes (record m { work = is })
  jumped f [] m = Goes (record m { work = [] })
  jumped f (Leave ds ∷ is) m = doing (leave ops ds) m (λ _ t. jumped f is t)
  jumped flow.Breaks (Again l ∷ is) m = Goes (record m { work = is })
  jumped flow.Breaks (Switch_end ∷ is) m = Goes (record m { work = is })
  jumped flow.Continues (Again l ∷ is) m = Goes (record m { work = Again l ∷ is })
  jumped flow.Breaks (Leave_function first g ∷ is) m = Goes (record m { work = Leave_function first g ∷ is })
  jumped flow.Continues (Leave_function first g ∷ is) m = Goes (record m { work = Leave_function first g ∷ is })
  jumped (flow.Returns v) (Leave_function first g ∷ is) m = closed first g v m.callers (record m { work = is })
  jumped f (i ∷ is) m = jumped f is m

  abbrev pub execute : St → Moment M → Act (Moment M) Ending
  execute (Do e) m = Goes (two (Evaluate e) Drop m)
  execute (Give x e) m = Goes (two (Evaluate e) (Initialize (Give x e)) m)
  execute (Init p local offset k e) m = Goes (two (Evaluate e) (Initialize (Init p local offset k e)) m)
  execute (Fill p local offset bytes unit e) m =
      Goes (two (Designate e) (Initialize (Fill p local offset bytes unit e)) m)
  execute (Block ds ss) m = doing (enter ops ds) m (λ _ t. Goes (two (Rest ss) (Leave ds) t))
  execute (If p k e a b) m = Goes (two (Evaluate e) (Branch (If p k e a b)) m)
  execute (While p k e b) m = Goes (one (Test (Before (Some (p, k, e)) None b)) m)
  execute (Do_while p k b e) m = Goes (two (Execute b) (Again (Behind p k e b)) m)
  execute (For ds first t step b) m =
      doing (enter ops ds) m (λ _ r. Goes (three (Rest first) (Test (Before t step b)) (Leave ds) r))
  execute (Switch p k e ds ls ss) m = Goes (two (Evaluate e) (Choose_label (Switch p k e ds ls ss)) m)
  execute Break m = jumped flow.Breaks m.work m
  execute Continue m = jumped flow.Continues m.work m
  execute (Return None) m = jumped (flow.Returns nothing) m.work m
  execute (Return (Some e)) m = Goes (two (Evaluate e) Give_back m)
  execute Empty m = Goes m

  abbrev pub proceed : Sts → Moment M → Act (Moment M) Ending
  proceed End m = Goes m
  proceed (Seq a ss) m = Goes (two (Execute a) (Rest ss) m)

  abbrev pub initialize : St → Moment M → Act (Moment M) Ending
  initialize (Give x e) m = doing (set_variable x (Some (first_of m.values))) (less_value m) (λ _ t. Goes t)
  initialize (Init p local offset k e) m =
      doing (part_of_local ops p local offset >>= λ to. store ops k to (first_of m.values)) (less_value m)
      (λ _ t. Goes t)
  initialize (Fill p local offset bytes unit e) m =
      doing (part_of_local ops p local offset >>= λ to. copy ops p bytes unit (first_place m.places) to) (less_place m)
      (λ _ t. Goes t)
  initialize _ m = Goes m

  abbrev pub branch : St → Moment M → Act (Moment M) Ending
  branch (If p k e a b) m =
      doing (test ops p k (first_of m.values)) (less_value m)
      (λ c t. Goes (if c then one (Execute a) t else one (Execute b) t))
  branch _ m = Goes (less_value m)

  abbrev pub at_test : Loop → Moment M → Act (Moment M) Ending
  at_test (Before None u b) m = Goes (two (Execute b) (Again (Before None u b)) m)
  at_test (Before (Some t) u b) m = Goes (two (Evaluate t.2) (Tested (Before (Some t) u b)) m)
  at_test (Behind p k e b) m = Goes (two (Evaluate e) (Tested (Behind p k e b)) m)

  -- a turn is used
  abbrev pub turned_to : List Item → Moment M → Act (Moment M) Ending
  turned_to is m = doing turn m (λ _ t. Goes (record t { work = is }))

  abbrev pub tested : Loop → Moment M → Act (Moment M) Ending
  tested (Before None u b) m = Goes (two (Execute b) (Again (Before None u b)) (less_value m))
  tested (Before (Some t) u b) m =
      doing (test ops t.0 t.1 (first_of m.values)) (less_value m)
      (λ c r. Goes (if c then two (Execute b) (Again (Before (Some t) u b)) r else r))
  tested (Behind p k e b) m =
      doing (test ops p k (first_of m.values)) (less_value m)
      (λ c r. if c then turned_to (Execute b ∷ Again (Behind p k e b) ∷ r.work) r else Goes r)

  abbrev pub again : Loop → Moment M → Act (Moment M) Ending
  again (Before t None b) m = turned_to (Test (Before t None b) ∷ m.work) m
  again (Before t (Some e) b) m = Goes (three (Evaluate e) Drop (Turn (Before t (Some e) b)) m)
  again (Behind p k e b) m = Goes (one (Test (Behind p k e b)) m)

  abbrev pub to_label : Sts → List Declared → Option ℕ → Moment M → Moment M
  to_label ss ds None m = one (Leave ds) m
  to_label ss ds (Some n) m = three (Rest (execs_behind ss n)) Switch_end (Leave ds) m

  abbrev pub choose_label : St → Moment M → Act (Moment M) Ending
  choose_label (Switch p k e ds ls ss) m =
      doing (enter ops ds >> find_label ops p k (first_of m.values) ls (default_of ls)) (less_value m)
      (λ o t. Goes (to_label ss ds o t))
  choose_label _ m = Goes (less_value m)

  -- ---- acts

  abbrev pub act_on : Item → Moment M → Act (Moment M) Ending
  act_on (Evaluate e) m = evaluate e m
  act_on (Designate e) m = designate e m
  act_on Drop m = Goes (less_value m)
  act_on (Finish e) m = finish_item e m
  act_on (Finish_place e) m = finish_place e m
  act_on (Choose e) m = choose_item e m
  act_on (Choose_place e) m = choose_place e m
  act_on (Decide e) m = decide e m
  act_on (Begin f) m = opened true f (slice_get funs f) [] m
  act_on (Leave_function first g) m = doing (at_end ops g.name g.at_end) m (λ v t. closed first g v t.callers t)
  act_on (Execute a) m = execute a m
  act_on (Rest ss) m = proceed ss m
  act_on (Initialize a) m = initialize a m
  act_on (Branch a) m = branch a m
  act_on (Test l) m = at_test l m
  act_on (Tested l) m = tested l m
  act_on (Again l) m = again l m
  act_on (Turn l) m = turned_to (Test l ∷ m.work) m
  act_on (Choose_label a) m = choose_label a m
  act_on Switch_end m = Goes m
  act_on (Leave ds) m = doing (leave ops ds) m (λ _ t. Goes t)
  act_on Give_back m = jumped (flow.Returns (first_of m.values)) m.work (less_value m)

  abbrev pub act_of : List Item → Moment M → Act (Moment M) Ending
  act_of [] m = Ends (ending.Exit (number_of (first_of m.values) % 256))
  act_of (i ∷ is) m = act_on i (record m { work = is })

  -- what a moment does next
  unfoldable pub act : Moment M → Act (Moment M) Ending
  act m = act_of m.work m

-- ---- runs of programs

-- the start of a program, with so many turns
unfoldable pub first_moment : {M : Type 0} → Operations M → Program → ℕ → Moment M
first_moment ops p turns = record {
  work = Begin p.main ∷ [];
  values = [];
  places = [];
  callers = [];
  now = record { vars = []; first = 0; mem = start ops p; frame = ops.stack_top; left = turns };
}

-- the endings of a run that come from the outside
abbrev pub limits : Limits Ending
limits = record { steps = ending.Turns; read_fault = ending.ReadFault; write_fault = ending.WriteFault }
