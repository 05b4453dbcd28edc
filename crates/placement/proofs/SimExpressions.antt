-- Expressions agree, over calls that do.
use Rattle.std.proofs.Common.{◌≡◌, ℕ, zero, suc, ◌+◌, ◌%◌, Bool, true, false, List, [], ◌∷◌, ◌++◌, Option, Some, None}
use Rattle.std.proofs.Common.{Result, Ok, Err, refl, subst, arith}
use Rattle.std.specs.Prelude.{slice_get, slice_index_or, ◌/◌}
use Rattle.std.specs.List.{AllByRecursion}
use Rattle.ck_base.specs.World.{World}
use Rattle.ck_base.specs.declared.positions.Pos.{Pos}
use Rattle.cap_ops.specs.declared.access.Cause.TheVariants as cause
use Rattle.obj_mem.specs.declared.ending.Ending.TheVariants as ending
use Rattle.obj_mem.specs.declared.ending.Fault.{Fault}
use Rattle.obj_mem.specs.declared.ending.Fault.TheVariants as F
use Rattle.obj_mem.specs.Values.{Value, Int, Live, Fun, Raw}
use Rattle.obj_mem.specs.Agreement.{Answers}
use Rattle.cheri_c_sem.specs.Kinds.{Kind, bytes_of, nothing, number_of, read_as}
use Rattle.cheri_c_sem.specs.Operations.{Operations}
use Rattle.cheri_c_sem.specs.Steps.{State, Fate, Then, ◌>>=◌, ◌>>◌, give, unit_answer, set_memory, byte_or_end}
use Rattle.cheri_c_sem.specs.Tree.{Service, Put_char, Get_char, Malloc, Exit, Address, Bounds, Works, Narrowing, Ex}
use Rattle.cheri_c_sem.specs.Tree.{Number, Null, Load, Aggregate, Pointer_to, Convert, Discard, Unary, Not, Binary}
use Rattle.cheri_c_sem.specs.Tree.{Compare, And, Or, Conditional, Comma, Assign, Copy, Compound, Call, Library}
use Rattle.cheri_c_sem.specs.Tree.{Variable, Local, Object, Function, Deref, Member, Exs, Nil, Cons}
use Rattle.cheri_c_sem.specs.Tree as tree
use Rattle.cheri_c_sem.specs.Meaning.{Place, In, At, position_of, capability_of, further, first_of, second_of, nowhere}
use Rattle.cheri_c_sem.specs.Meaning.{given, load, store, copy_units, copy, test, point_to, called, allocate, serve}
use Rattle.placement.specs.Endings.{Agrees}
use Rattle.placement.specs.Runs.{twin}
use Rattle.placement.specs.Relations.{IsWord, Both, Relation, AllGood, VarsGood, Moved, Keeps}
use Rattle.placement.proofs.Sim.{KeepsOutput, no_values, itself, Stands, Onward, Sim, here, onward, all_climb, changed}
use Rattle.placement.proofs.Sim.{grows_answer, grows_unit, answered, unit_answered, sim_give, sim_ends, sim_bind}
use Rattle.placement.proofs.Sim.{sim_then, sim_choose, sim_answer, sim_ask, sim_set_variable, sim_change, sim_memory}
use Rattle.placement.proofs.Sim.{sim_put, sim_get}
use Rattle.placement.proofs.Operated.{on_both, unasked, nothing_good, tested, read_good}

-- the value in a place
abbrev pub in_place : Place → List Value
in_place p = capability_of p ∷ []

abbrev pub all_of : List Value → List Value
all_of vs = vs

pub alone : {A : Type 0} (good : A → Type 0) (x y : Result A Fault) → Answers (Both good) x y
    → Answers (Both (λ v. good v × Unit {0})) x y
alone good (Ok v) (Ok w) h = (h.0, (h.1, tt))
alone good (Ok v) (Err e) h = absurd h
alone good (Err (F.Cause c)) y h = h
alone good (Err F.Outside) y h = tt
alone good (Err (F.Unspecified u)) y h = tt

module _ {M N : Type 0} {r : Relation M N} {ops : Operations M} {pops : Operations N} {globals functions : ℕ}
    {funs : List tree.Fun} (k : Keeps r ops pops globals functions funs)
    (w : World) (bytes_good : AllByRecursion IsWord w.bytes) (objects : ℕ) where
  -- a part of the meaning in both runs
  abbrev Both_do : {A : Type 0} → List Value → (A → List Value) → Then M A → Then N A → Type 0
  Both_do known g c d = Sim k.order objects known g c d

  -- ---- places

  abbrev GoodThere : M → Option (Option Value) → Type 0
  GoodThere m (Some (Some v)) = r.good m v
  GoodThere m (Some None) = Unit {0}
  GoodThere m None = Unit {0}

  vars_get : (m : M) (vs : List (Option Value)) (x : ℕ) → VarsGood r m vs → GoodThere m (slice_get vs x)
  vars_get m [] x g = tt
  vars_get m (None ∷ vs) zero g = tt
  vars_get m (Some v ∷ vs) zero g = g.0
  vars_get m (None ∷ vs) (suc x) g = vars_get m vs x g
  vars_get m (Some v ∷ vs) (suc x) g = vars_get m vs x g.1

  grows_given : (p : Pos) (j : Kind) (o : Option (Option Value)) → KeepsOutput (given ops w p j o)
  grows_given p j (Some (Some v)) s l g = g v s
  grows_given p j (Some None) s l g = grows_answer k.order objects p (ops.unset j) s l g
  grows_given p j None s l g = grows_answer k.order objects p (ops.unset j) s l g

  unset_agrees : (p : Pos) (j : Kind) (s : State M) (n : N) (frame : ℕ) → Stands k.order objects s n frame
      → (f : Value → State M → Fate) (l : Value → State N → Fate)
      → ((x : Value) (t : State M) (u : N) → Onward k.order objects s n frame t u → AllGood r t.mem (itself x)
      → Agrees (f x t) (l x (twin t u frame)))
      → Agrees (given ops w p j None s f) (given pops w p j None (twin s n frame) l)
  unset_agrees p j s n frame e f l q = answered k.order objects (Both (r.good s.mem)) p (ops.unset j) (pops.unset j)
      (k.unset s.mem j) s n frame f l
      (λ v z b. subst (λ y. Agrees (f v s) (l y (twin s n frame))) b.0
      (q v s n (here k.order objects s n frame e) (b.1, tt)))

  given_agrees : (p : Pos) (j : Kind) (o : Option (Option Value)) (s : State M) (n : N) (frame : ℕ)
      → Stands k.order objects s n frame → GoodThere s.mem o → (f : Value → State M → Fate) (l : Value → State N → Fate)
      → ((x : Value) (t : State M) (u : N) → Onward k.order objects s n frame t u → AllGood r t.mem (itself x)
      → Agrees (f x t) (l x (twin t u frame)))
      → Agrees (given ops w p j o s f) (given pops w p j o (twin s n frame) l)
  given_agrees p j (Some (Some v)) s n frame e g f l q = q v s n (here k.order objects s n frame e) (g, tt)
  given_agrees p j (Some None) s n frame e g f l q = unset_agrees p j s n frame e f l q
  given_agrees p j None s n frame e g f l q = unset_agrees p j s n frame e f l q

  pub sim_load : {known : List Value} (j : Kind) (place : Place)
      → Sim k.order objects known itself (load ops w j place) (load pops w j place)
  sim_load j (In p x) = record {
    grows = λ s l g. grows_given p j (slice_get s.vars x) s l g;
    agrees = λ s n frame e a f l g q. given_agrees p j (slice_get s.vars x) s n frame e
        (vars_get s.mem s.vars x e.vars) f l q;
  }
  sim_load j (At p v) = sim_bind k.order objects itself itself
      (sim_ask k.order objects itself p _ _
      (λ first frame m n e a. alone (r.good m) _ _ (k.loads objects first frame m n e v j)))
      (λ x. sim_give k.order objects itself (read_as j x) (λ m a. (read_good k m j x a.0, tt)))

  pub sim_store : {known : List Value} (j : Kind) (place : Place) (v : Value)
      → ((m : M) → AllGood r m known → r.good m v) → Sim k.order objects known no_values (store ops w j place v)
      (store pops w j place v)
  sim_store j (In p x) v h = sim_set_variable k.order objects x v h
  sim_store j (At p to) v h = sim_memory k.order objects p _ _
      (λ first frame m n e a. k.stores objects first frame m n e to v (bytes_of j) (h m a))

  -- ---- copies

  -- one unit, and then the rest
  sim_unit : {known : List Value} (from to : Pos) (v z : Value) (unit : ℕ) (c : Then M (Unit {0}))
      (d : Then N (Unit {0})) → Sim k.order objects known no_values c d
      → Sim k.order objects known no_values
      ((λ s. unit_answer from to (ops.copy_unit s.mem v z unit) s) >>= λ m. set_memory m >> c)
      ((λ s. unit_answer from to (pops.copy_unit s.mem v z unit) s) >>= λ m. set_memory m >> d)
  sim_unit {known} from to v z unit c d rest = record {
    grows = λ s f g. grows_unit k.order objects from to (ops.copy_unit s.mem v z unit) s _
        (λ m t. rest.grows (record t { mem = m }) f g);
    agrees = λ s n frame e a f l g q.
        unit_answered k.order objects (Moved r objects s.first frame s.mem n) from to (ops.copy_unit s.mem v z unit)
        (pops.copy_unit n v z unit)
        (k.copies objects s.first frame s.mem n e.memory v z unit) s n frame _ _
        (λ m' n' b. let o = changed k.order objects s n frame e m' n' b in
        rest.agrees (record s { mem = m' }) n' frame o.stands (all_climb k.order objects s.mem m' n n' known b.1 a) f
        l g
        (λ x t u o' b'. q x t u (onward k.order objects s (record s { mem = m' }) t n n' u frame o o') b'));
  }

  sim_units : {known : List Value} (count unit at : ℕ) (from to : Place)
      → Sim k.order objects known no_values (copy_units ops w count unit at from to)
      (copy_units pops w count unit at from to)
  sim_units zero unit at from to = sim_give k.order objects no_values tt (λ m a. tt)
  sim_units (suc count) unit at from to =
      sim_unit (position_of from) (position_of to) (further (capability_of from) at) (further (capability_of to) at)
      unit _ _ (sim_units count unit (at + unit) from to)

  pub sim_copy : {known : List Value} (p : Pos) (bytes unit : ℕ) (from to : Place)
      → Sim k.order objects known no_values (copy ops w p bytes unit from to) (copy pops w p bytes unit from to)
  sim_copy p bytes unit from to = sim_then k.order objects no_values no_values
      (sim_answer k.order objects no_values p _ _
      (λ m a. unasked _ _ (k.overlaps (capability_of from) (capability_of to) bytes)))
      (sim_units (bytes / unit) unit 0 from to)

  -- ---- single operations

  pub sim_test : {known : List Value} (p : Pos) (j : Kind) (v : Value) → ((m : M) → AllGood r m known → r.good m v)
      → Sim k.order objects known no_values (test ops w p j v) (test pops w p j v)
  sim_test p j v h = sim_ask k.order objects no_values p _ _
      (λ first frame m n e a. unasked _ _ (tested k m w objects first frame n e j v (h m a)))

  pub sim_point_to : {known : List Value} (p : Pos) (o : Option Narrowing) (to : Place)
      → ((m : M) → AllGood r m known → r.good m (capability_of to))
      → Sim k.order objects known itself (point_to ops w p o to) (point_to pops w p o to)
  sim_point_to p None to h = sim_give k.order objects itself (capability_of to) (λ m a. (h m a, tt))
  sim_point_to p (Some o) to h = sim_bind k.order objects itself itself
      (sim_ask k.order objects itself p _ _
      (λ first frame m n e a. alone (r.good m) _ _
      (k.narrows objects first frame m n e (capability_of to) o.owned true (h m a))))
      (λ v. sim_then k.order objects no_values itself
      (sim_change k.order objects (λ s. ops.note_member s.mem v o.own) (λ s. pops.note_member s.mem v o.own)
      (λ s n frame e a. k.notes objects s.first frame s.mem n e.memory v o.own))
      (sim_give k.order objects itself v (λ m a. (a.0, tt))))

  pub sim_called : {known : List Value} (p : Pos) (fits : List Bool) (v : Value)
      → Sim k.order objects known no_values (called ops w p fits v) (called pops w p fits v)
  sim_called p fits (Fun f) = sim_choose k.order objects no_values (slice_index_or fits f false)
      (sim_give k.order objects no_values f (λ m a. tt)) (sim_ends k.order objects no_values (ending.Outside p))
  sim_called p fits (Live o low high at permissions) = sim_ends k.order objects no_values (ending.Trap cause.Execute p)
  sim_called p fits (Raw address upper) = sim_ends k.order objects no_values (ending.Trap cause.Tag p)
  sim_called p fits (Int v) = sim_ends k.order objects no_values (ending.Trap cause.Tag p)

  -- ---- library functions

  byte_there : (bs : List ℕ) (i : ℕ) (m : M) → AllByRecursion IsWord bs → r.good m (byte_or_end (slice_get bs i))
  byte_there [] i m g = k.words m _ (omega arith)
  byte_there (b ∷ bs) zero m g = k.words m b g.0
  byte_there (b ∷ bs) (suc i) m g = byte_there bs i m g.1

  first_good : (m : M) (vs : List Value) → AllGood r m vs → r.good m (first_of vs)
  first_good m [] a = nothing_good k m
  first_good m (v ∷ vs) a = a.0

  second_good : (m : M) (vs : List Value) → AllGood r m vs → r.good m (second_of vs)
  second_good m [] a = nothing_good k m
  second_good m (v ∷ vs) a = first_good m vs a.1

  sim_allocate : {known : List Value} (p : Pos) (bytes : ℕ) → IsWord bytes
      → Sim k.order objects known itself (allocate ops w p bytes) (allocate pops w p bytes)
  sim_allocate p bytes h = record {
    grows = λ s f g. grows_answer k.order objects p (ops.allocate s.mem bytes) s _
        (λ x t. g x.0 (record t { mem = x.1 }));
    agrees = λ s n frame e a f l g q.
        answered k.order objects
        (λ x y. (x.0 ≡ y.0) × r.good x.1 x.0 × Moved r objects s.first frame s.mem n x.1 y.1) p
        (ops.allocate s.mem bytes) (pops.allocate n bytes)
        (k.allocations objects s.first frame s.mem n e.memory bytes h) s n frame _ _
        (λ x y b. subst (λ v. Agrees (f x.0 (record s { mem = x.1 }))
        (l v (twin (record s { mem = x.1 }) y.1 frame))) b.0
        (q x.0 (record s { mem = x.1 }) y.1 (changed k.order objects s n frame e x.1 y.1 b.2) (b.1, tt)));
  }

  -- what getchar gives
  abbrev read : Option ℕ → List Value
  read b = byte_or_end b ∷ []

  pub sim_serve : {known : List Value} (p : Pos) (service : Service) (vs : List Value)
      → ((m : M) → AllGood r m known → AllGood r m vs) → Sim k.order objects known itself (serve ops w p service vs)
      (serve pops w p service vs)
  sim_serve p Put_char vs h =
      sim_then k.order objects no_values itself (sim_put k.order objects w (number_of (first_of vs) % 256))
      (sim_give k.order objects itself (Int (number_of (first_of vs) % 256)) (λ m a. (k.words m _ (omega arith), tt)))
  sim_serve p Get_char vs h =
      sim_bind k.order objects read itself
      (sim_get k.order objects w read (λ m i. (byte_there w.bytes i m bytes_good, tt)))
      (λ b. sim_give k.order objects itself (byte_or_end b) (λ m a. (a.0, tt)))
  sim_serve p Malloc vs h = record {
    grows = λ s f g. grows_answer k.order objects p (ops.allocate s.mem (number_of (first_of vs))) s _
        (λ x t. g x.0 (record t { mem = x.1 }));
    agrees = λ s n frame e a.
        (sim_allocate p (number_of (first_of vs))
        (k.word s.mem (first_of vs) (first_good s.mem vs (h s.mem a)))).agrees s n frame e a;
  }
  sim_serve p Exit vs h = sim_ends k.order objects itself (ending.Exit (number_of (first_of vs) % 256))
  sim_serve p Address vs h = sim_ask k.order objects itself p _ _ (λ first frame m n e a. alone (r.good m) _ _
      (on_both ops pops IsWord (r.good m) _ _ _ _
      (k.addresses objects first frame m n e (first_of vs) (first_good m vs (h m a)))
      (λ v g. (refl, k.words m v g))))
  sim_serve p (Bounds exact) vs h = sim_ask k.order objects itself p _ _ (λ first frame m n e a. alone (r.good m) _ _
      (k.narrows objects first frame m n e (first_of vs) (number_of (second_of vs)) exact (first_good m vs (h m a))))
  sim_serve p (Works work) vs h = sim_ask k.order objects itself p _ _ (λ first frame m n e a. alone (r.good m) _ _
      (k.works objects first frame m n e work (first_of vs) (second_of vs) (first_good m vs (h m a))
      (second_good m vs (h m a))))

  -- ---- expressions

  pub all_left : (m : M) (vs ws : List Value) → AllGood r m (vs ++ ws) → AllGood r m vs
  all_left m [] ws a = tt
  all_left m (v ∷ vs) ws a = (a.0, all_left m vs ws a.1)

  pub all_right : (m : M) (vs ws : List Value) → AllGood r m (vs ++ ws) → AllGood r m ws
  all_right m [] ws a = a
  all_right m (v ∷ vs) ws a = all_right m vs ws a.1

  nowhere_good : (m : M) → r.good m (capability_of nowhere)
  nowhere_good m = k.nulls m 0 (omega arith)

  -- where nothing is given
  pub sim_nothing : {known : List Value} → Sim k.order objects known itself (give nothing) (give nothing)
  sim_nothing = sim_give k.order objects itself nothing (λ m a. (nothing_good k m, tt))

  pub sim_nowhere : {known : List Value} → Sim k.order objects known in_place (give nowhere) (give nowhere)
  sim_nowhere = sim_give k.order objects in_place nowhere (λ m a. (nowhere_good m, tt))

  -- a pointer to an object
  pub sim_whole : {known : List Value} (p : Pos) (f : State M → Value) (l : State N → Value)
      → ((s : State M) (n : N) (frame : ℕ) → Stands k.order objects s n frame
      → Both (r.good s.mem) (f s) (l (twin s n frame)))
      → Sim k.order objects known in_place (λ s k. k (At p (f s)) s) (λ s k. k (At p (l s)) s)
  sim_whole p f l h = record {
    grows = λ s i g. g (At p (f s)) s;
    agrees = λ s n frame e a i j g q. let b = h s n frame e in
        subst (λ v. Agrees (i (At p (f s)) s) (j (At p v) (twin s n frame))) b.0
        (q (At p (f s)) s n (here k.order objects s n frame e) (b.1, tt));
  }
