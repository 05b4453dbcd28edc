-- What the parts of a run do that neither read nor put: each gives a value and a state to go on from, or the run ends.
use Rattle.std.specs.Prelude.{ℕ, zero, suc, ◌+◌, ◌/◌, Bool, true, false, List, [], ◌∷◌, replicate, Option, Some, None}
use Rattle.std.specs.Prelude.{Result, Ok, Err, slice_get, slice_set, slice_index_or}
use Rattle.ck_base.specs.declared.positions.Pos.{Pos}
use Rattle.ck_int.specs.declared.kinds.CmpOp.TheVariants.{Eq}
use Rattle.cap_ops.specs.Permissions.{data_permissions}
use Rattle.cap_ops.specs.declared.access.Cause.TheVariants as cause
use Rattle.obj_mem.specs.Values.{Value}
use Rattle.obj_mem.specs.Values as value
use Rattle.obj_mem.specs.declared.ending.Ending.{Ending}
use Rattle.obj_mem.specs.declared.ending.Ending.TheVariants as ending
use Rattle.obj_mem.specs.declared.ending.Fault.{Fault}
use Rattle.obj_mem.specs.declared.ending.UnitFault.{UnitFault}
use Rattle.cheri_c_sem.specs.Kinds.{Kind, bytes_of, read_as, nothing}
use Rattle.cheri_c_sem.specs.Operations.{Operations, compare_by, is_true}
use Rattle.cheri_c_sem.specs.Steps.{fault_end, unit_end}
use Rattle.cheri_c_sem.specs.Tree.{Narrowing, Declared, Simple, Objects, Label, Case, Default, Parameter, In_variable}
use Rattle.cheri_c_sem.specs.Tree.{In_object, At_end, Gives_nothing, Gives_zero, Lacks, Fun}
use Rattle.cheri_c_sem.specs.Meaning.{Place, In, At, position_of, capability_of, further}
use Rattle.cheri_c_sem.specs.Statements.{label_value}
use Rattle.cheri_c_sem.specs.Calls.{add_locals, end_locals}

infixl 10 ◌>>=◌
infixl 10 ◌>>◌
-- What a run has between two of its parts, apart from what was done with the outside.
pub record Now (M : Type 0) : Type 0 where
  pub vars : List (Option Value)
  pub first : ℕ
  pub mem : M
  pub frame : ℕ
  pub left : ℕ

-- what a part comes to
pub data Came (M A : Type 0) : Type 0 where
  On : A → Now M → Came M A
  Over : Ending → Came M A

abbrev pub Part : Type 0 → Type 0 → Type 0
Part M A = Now M → Came M A

abbrev pub next_of : {M A B : Type 0} → Came M A → (A → Part M B) → Came M B
next_of (On x n) f = f x n
next_of (Over e) f = Over e

abbrev pub ◌>>=◌ : {M A B : Type 0} → Part M A → (A → Part M B) → Part M B
c >>= f = λ n. next_of (c n) f

abbrev pub ◌>>◌ : {M A B : Type 0} → Part M A → Part M B → Part M B
c >> d = λ n. next_of (c n) (λ _. d)

module _ {M : Type 0} where
  abbrev pub give : {A : Type 0} → A → Part M A
  give x = λ n. On x n

  abbrev pub ends : {A : Type 0} → Ending → Part M A
  ends e = λ n. Over e

  abbrev pub answer : {A : Type 0} → Pos → Result A Fault → Part M A
  answer pos (Ok x) = give x
  answer pos (Err f) = ends (fault_end f pos)

  abbrev pub unit_answer : {A : Type 0} → Pos → Pos → Result A UnitFault → Part M A
  unit_answer from to (Ok x) = give x
  unit_answer from to (Err f) = ends (unit_end f from to)

  abbrev pub turn_from : ℕ → Part M (Unit {0})
  turn_from zero = ends ending.Turns
  turn_from (suc j) = λ n. On tt (record n { left = j })

  -- uses one turn
  abbrev pub turn : Part M (Unit {0})
  turn = λ n. turn_from n.left n

  abbrev pub choose : {A : Type 0} → Bool → Part M A → Part M A → Part M A
  choose true a b = a
  choose false a b = b

  abbrev pub ask : {A : Type 0} → Pos → (M → Result A Fault) → Part M A
  ask pos f = λ n. answer pos (f n.mem) n

  abbrev pub set_memory : M → Part M (Unit {0})
  set_memory m = λ n. On tt (record n { mem = m })

  abbrev pub change_memory : (M → M) → Part M (Unit {0})
  change_memory f = λ n. On tt (record n { mem = f n.mem })

  abbrev pub set_variable : ℕ → Option Value → Part M (Unit {0})
  set_variable x v = λ n. On tt (record n { vars = slice_set n.vars x v })

module _ {M : Type 0} (ops : Operations M) where
  -- ---- places

  abbrev pub given : Pos → Kind → Option (Option Value) → Part M Value
  given p k (Some (Some v)) = give v
  given p k (Some None) = answer p (ops.unset k)
  given p k None = answer p (ops.unset k)

  abbrev pub load : Kind → Place → Part M Value
  load k (In p x) = λ n. given p k (slice_get n.vars x) n
  load k (At p v) = do
    r ← ask p (λ m. ops.load m v (bytes_of k))
    give (read_as k r)

  abbrev pub store : Kind → Place → Value → Part M (Unit {0})
  store k (In p x) v = set_variable x (Some v)
  store k (At p to) v = do
    m ← ask p (λ m. ops.store m to (bytes_of k) v)
    set_memory m

  abbrev pub copy_units : ℕ → (unit at : ℕ) → Place → Place → Part M (Unit {0})
  copy_units zero unit at from to = give tt
  copy_units (suc j) unit at from to = do
    m ← λ n. unit_answer (position_of from) (position_of to)
        (ops.copy_unit n.mem (further (capability_of from) at) (further (capability_of to) at) unit) n
    set_memory m
    copy_units j unit (at + unit) from to

  abbrev pub copy : Pos → (bytes unit : ℕ) → Place → Place → Part M (Unit {0})
  copy p bytes unit from to = do
    answer p (ops.overlap (capability_of from) (capability_of to) bytes)
    copy_units (bytes / unit) unit 0 from to

  abbrev pub point_to : Pos → Option Narrowing → Place → Part M Value
  point_to p None to = give (capability_of to)
  point_to p (Some n) to = do
    r ← ask p (λ m. ops.narrow m (capability_of to) n.owned true)
    change_memory (λ m. ops.note_member m r n.own)
    give r

  -- the place at an offset in a local of the current call
  abbrev pub part_of_local : Pos → (local offset : ℕ) → Part M Place
  part_of_local p local offset = λ n. (do
    v ← ask p (λ m. ops.offset m (ops.whole m (n.first + local) data_permissions) offset)
    give (At p v)) n

  -- ---- single operations

  abbrev pub test : Pos → Kind → Value → Part M Bool
  test p k v = ask p (λ m. is_true ops m k v)

  abbrev pub allocate : Pos → ℕ → Part M Value
  allocate p j = do
    r ← ask p (λ m. ops.allocate m j)
    set_memory r.1
    give r.0

  -- ---- blocks

  abbrev pub enter_one : Declared → Part M (Unit {0})
  enter_one (Simple x) = set_variable x None
  enter_one (Objects j) = λ n. On tt (record n { mem = ops.zero n.mem (n.first + j) })

  abbrev pub enter : List Declared → Part M (Unit {0})
  enter [] = give tt
  enter (d ∷ ds) = do
    enter_one d
    enter ds

  abbrev pub leave_one : Declared → Part M (Unit {0})
  leave_one (Simple x) = give tt
  leave_one (Objects j) = λ n. On tt (record n { mem = ops.leave n.mem (n.first + j) })

  abbrev pub leave : List Declared → Part M (Unit {0})
  leave [] = give tt
  leave (d ∷ ds) = do
    leave_one d
    leave ds

  abbrev pub find_label : Pos → Kind → Value → List Label → Option ℕ → Part M (Option ℕ)
  find_label p k v [] otherwise = give otherwise
  find_label p k v (Default j ∷ ls) otherwise = find_label p k v ls otherwise
  find_label p k v (Case c j ∷ ls) otherwise = do
    same ← ask p (λ m. compare_by ops m Eq k v (label_value k c))
    choose same (give (Some j)) (find_label p k v ls otherwise)

  -- ---- calls

  abbrev pub compatible : Pos → ℕ → Bool → Part M ℕ
  compatible p f fits = choose fits (give f) (ends (ending.Outside p))

  abbrev pub called : Pos → List Bool → Value → Part M ℕ
  called p fits (value.Fun f) = compatible p f (slice_index_or fits f false)
  called p fits (value.Live object low high offset permissions) = ends (ending.Trap cause.Execute p)
  called p fits (value.Raw address upper) = ends (ending.Trap cause.Tag p)
  called p fits (value.Int j) = ends (ending.Trap cause.Tag p)

  abbrev pub frame : Option ℕ → ℕ → Fun → Part M (Unit {0})
  frame None j f = ends (ending.Stack f.name)
  frame (Some address) j f =
      λ n. On tt (record n {
        vars = replicate f.vars None;
        first = ops.count n.mem;
        mem = add_locals ops n.mem address j 0 f.objects;
        frame = address;
      })

  abbrev pub pass_one : Pos → Parameter → Value → Part M (Unit {0})
  pass_one p (In_variable x) v = set_variable x (Some v)
  pass_one p (In_object j k) v = λ n. (do
    change_memory (λ m. ops.zero m (n.first + j))
    store k (At p (ops.whole n.mem (n.first + j) data_permissions)) v) n

  abbrev pub pass : Pos → List Parameter → List Value → Part M (Unit {0})
  pass p [] vs = give tt
  pass p (a ∷ parameters) [] = give tt
  pass p (a ∷ parameters) (v ∷ vs) = do
    pass_one p a v
    pass p parameters vs

  abbrev pub at_end : Pos → At_end → Part M Value
  at_end p Gives_nothing = give nothing
  at_end p Gives_zero = give (value.Int 0)
  at_end p (Lacks k) = answer p (ops.falls k)

  -- the locals end
  abbrev pub close : Fun → Part M (Unit {0})
  close f = λ n. On tt (record n { mem = end_locals ops n.mem n.first f.objects })
