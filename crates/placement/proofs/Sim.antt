-- Parts of two runs that agree, over memories that stand for one another.
use Rattle.std.proofs.Common.{◌≡◌, ℕ, zero, suc, Bool, true, false, List, [], ◌∷◌, ◌++◌, length, Option, Some, None}
use Rattle.std.proofs.Common.{Result, Ok, Err, refl, sym, ◌∙◌, subst, inl, inr}
use Rattle.std.specs.Prelude.{slice_get, slice_set}
use Rattle.ck_base.specs.World.{World, fails_after}
use Rattle.ck_base.specs.Runs.{with_put, with_read}
use Rattle.ck_base.specs.Calls.{BeginsWith}
use Rattle.ck_base.proofs.Fronts.{begins_refl, begins_more, begins_trans}
use Rattle.ck_base.specs.declared.positions.Pos.{Pos}
use Rattle.obj_mem.specs.declared.ending.Fault.{Fault}
use Rattle.obj_mem.specs.declared.ending.Fault.TheVariants as F
use Rattle.obj_mem.specs.declared.ending.UnitFault.{UnitFault}
use Rattle.obj_mem.specs.declared.ending.UnitFault.TheVariants as U
use Rattle.obj_mem.specs.declared.ending.Ending.{Ending}
use Rattle.obj_mem.specs.declared.ending.Ending.TheVariants as ending
use Rattle.obj_mem.specs.Values.{Value}
use Rattle.obj_mem.specs.Agreement.{Answers, CopyAnswers}
use Rattle.cheri_c_sem.specs.Steps.{State, Fate, Then, ◌>>=◌, ◌>>◌, give, over, ends, fault_end, unit_end, answer}
use Rattle.cheri_c_sem.specs.Steps.{unit_answer, ask, choose, turn_from, turn, set_memory, set_variable, put, get}
use Rattle.placement.specs.Endings.{Agrees}
use Rattle.placement.specs.Runs.{twin}
use Rattle.placement.specs.Relations.{Both, Relation, Order, AllGood, VarsGood, Moved}

abbrev pub agrees_same : (o : Fate) → Agrees o o
agrees_same o = inr (inl refl)

-- what follows keeps what was put
abbrev pub Grows : {M A : Type 0} → (A → State M → Fate) → Type 0
Grows {M} {A} k = (x : A) (t : State M) → BeginsWith (k x t).done.output t.done.output

abbrev pub KeepsOutput : {M A : Type 0} → Then M A → Type 0
KeepsOutput {M} {A} c = (s : State M) (k : A → State M → Fate) → Grows k → BeginsWith (c s k).done.output s.done.output

-- ---- the values in what a part of a run gives

abbrev pub no_values : {A : Type 0} → A → List Value
no_values x = []

abbrev pub itself : Value → List Value
itself v = v ∷ []

module _ {M N : Type 0} {r : Relation M N} (order : Order r) (objects : ℕ) where
  pub all_climb : (m m' : M) (n n' : N) (vs : List Value) → r.later m n m' n' → AllGood r m vs → AllGood r m' vs
  all_climb m m' n n' [] l g = tt
  all_climb m m' n n' (v ∷ vs) l g = (order.climbs m m' n n' v l g.0, all_climb m m' n n' vs l g.1)

  pub vars_climb : (m m' : M) (n n' : N) (vs : List (Option Value)) → r.later m n m' n' → VarsGood r m vs
      → VarsGood r m' vs
  vars_climb m m' n n' [] l g = tt
  vars_climb m m' n n' (None ∷ vs) l g = vars_climb m m' n n' vs l g
  vars_climb m m' n n' (Some v ∷ vs) l g = (order.climbs m m' n n' v l g.0, vars_climb m m' n n' vs l g.1)

  pub all_join : (m : M) (vs ws : List Value) → AllGood r m vs → AllGood r m ws → AllGood r m (vs ++ ws)
  all_join m [] ws g h = h
  all_join m (v ∷ vs) ws g h = (g.0, all_join m vs ws g.1 h)

  -- a state of the first run in a call, and the second run's memory and frame
  pub record Stands (s : State M) (n : N) (frame : ℕ) : Type 0 where
    pub memory : r.stand objects s.first frame s.mem n
    pub vars : VarsGood r s.mem s.vars

  -- what a state comes to in the same call
  pub record Onward (s : State M) (n : N) (frame : ℕ) (t : State M) (u : N) : Type 0 where
    pub stands : Stands t u frame
    pub later : r.later s.mem n t.mem u
    pub first : t.first ≡ s.first

  -- Where the values `known` are good, both parts agree, if what follows does; and the first part keeps what was put
  pub record Sim {A : Type 0} (known : List Value) (given : A → List Value) (c : Then M A) (d : Then N A) : Type 0 where
    pub grows : KeepsOutput c
    pub agrees : (s : State M) (n : N) (frame : ℕ) → Stands s n frame → AllGood r s.mem known
        → (k : A → State M → Fate) (l : A → State N → Fate) → Grows k
        → ((x : A) (t : State M) (u : N) → Onward s n frame t u → AllGood r t.mem (given x)
        → Agrees (k x t) (l x (twin t u frame)))
        → Agrees (c s k) (d (twin s n frame) l)

  pub here : (s : State M) (n : N) (frame : ℕ) → Stands s n frame → Onward s n frame s n
  here s n frame e = record { stands = e; later = order.same s.mem n; first = refl }

  pub onward : (s t t' : State M) (n u u' : N) (frame : ℕ) → Onward s n frame t u → Onward t u frame t' u'
      → Onward s n frame t' u'
  onward s t t' n u u' frame a b =
      record {
        stands = b.stands;
        later = order.twice s.mem t.mem t'.mem n u u' a.later b.later;
        first = b.first
            ∙ a.first;
      }

  pub sim_give : {A : Type 0} {known : List Value} (given : A → List Value) (x : A)
      → ((m : M) → AllGood r m known → AllGood r m (given x)) → Sim known given (give x) (give x)
  sim_give given x h = record {
    grows = λ s k g. g x s;
    agrees = λ s n frame e a k l g f. f x s n (here s n frame e)
        (h s.mem a);
  }

  pub sim_ends : {A : Type 0} {known : List Value} (given : A → List Value) (e : Ending)
      → Sim {A = A} known given (ends e) (ends e)
  sim_ends given e = record {
    grows = λ s k g. begins_refl s.done.output;
    agrees = λ s n frame h a k l g f. inr
        (inl refl);
  }

  pub sim_bind : {A B : Type 0} {known : List Value} (given : A → List Value) (given' : B → List Value)
      {c : Then M A} {d : Then N A} {f : A → Then M B} {g : A → Then N B}
      → Sim known given c d → ((x : A) → Sim (given x ++ known) given' (f x) (g x))
      → Sim known given' (c >>= f) (d >>= g)
  sim_bind {A} {B} {known} given given' {c} {d} {f} {g} cd fg = record {
    grows = λ s k gr. cd.grows s _ (λ x t. (fg x).grows t k gr);
    agrees = λ s n frame e a k l gr h. cd.agrees s n frame e a _ _ (λ x t. (fg x).grows t k gr) (λ x t u o b.
        (fg x).agrees t u frame o.stands
        (all_join t.mem (given x) known b (all_climb s.mem t.mem n u known o.later a)) k l gr
        (λ y t' u' o' b'. h y t' u' (onward s t t' n u u' frame o o') b'));
  }

  pub sim_then : {A B : Type 0} {known : List Value} (given : A → List Value) (given' : B → List Value)
      {c : Then M A} {d : Then N A} {f : Then M B} {g : Then N B}
      → Sim known given c d → Sim known given' f g → Sim known given' (c >> f) (d >> g)
  sim_then {A} {B} {known} given given' {c} {d} {f} {g} cd fg = record {
    grows = λ s k gr. cd.grows s _ (λ x t. fg.grows t k gr);
    agrees = λ s n frame e a k l gr h. cd.agrees s n frame e a _ _ (λ x t. fg.grows t k gr) (λ x t u o b.
        fg.agrees t u frame o.stands (all_climb s.mem t.mem n u known o.later a) k l gr
        (λ y t' u' o' b'. h y t' u' (onward s t t' n u u' frame o o') b'));
  }

  -- what is known may be forgotten
  pub sim_known : {A : Type 0} (known : List Value) {known' : List Value} (given : A → List Value) {c : Then M A}
      {d : Then N A} → ((m : M) → AllGood r m known' → AllGood r m known) → Sim known given c d → Sim known' given c d
  sim_known known given h cd = record { grows = cd.grows; agrees = λ s n frame e a. cd.agrees s n frame e (h s.mem a) }

  pub sim_choose : {A : Type 0} {known : List Value} (given : A → List Value) (v : Bool) {a b : Then M A}
      {c d : Then N A} → Sim known given a c → Sim known given b d → Sim known given (choose v a b) (choose v c d)
  sim_choose given true ac bd = ac
  sim_choose given false ac bd = bd

  -- ---- answers

  pub grows_answer : {A : Type 0} (pos : Pos) (x : Result A Fault) → KeepsOutput {M = M} (answer pos x)
  grows_answer pos (Ok x) s k g = g x s
  grows_answer pos (Err f) s k g = begins_refl s.done.output

  pub grows_unit : {A : Type 0} (from to : Pos) (x : Result A UnitFault) → KeepsOutput {M = M} (unit_answer from to x)
  grows_unit from to (Ok x) s k g = g x s
  grows_unit from to (Err f) s k g = begins_refl s.done.output

  -- answers that agree, and then what follows
  pub answered : {A B : Type 0} (P : A → B → Type 0) (pos : Pos) (x : Result A Fault) (y : Result B Fault)
      → Answers P x y → (s : State M) (n : N) (frame : ℕ) (k : A → State M → Fate) (l : B → State N → Fate)
      → ((v : A) (w : B) → P v w → Agrees (k v s) (l w (twin s n frame)))
      → Agrees (answer pos x s k) (answer pos y (twin s n frame) l)
  answered P pos (Ok v) (Ok w) h s n frame k l f = f v w h
  answered P pos (Ok v) (Err e) h s n frame k l f = absurd h
  answered P pos (Err (F.Cause c)) y h s n frame k l f =
      subst (λ z. Agrees (over (fault_end (F.Cause c) pos) s) (answer pos z (twin s n frame) l)) (sym h)
      (inr (inl refl))
  answered P pos (Err F.Outside) y h s n frame k l f = inl tt
  answered P pos (Err (F.Unspecified u)) y h s n frame k l f = inl tt

  pub unit_answered : {A B : Type 0} (P : A → B → Type 0) (from to : Pos) (x : Result A UnitFault)
      (y : Result B UnitFault) → CopyAnswers P x y → (s : State M) (n : N) (frame : ℕ) (k : A → State M → Fate)
      (l : B → State N → Fate)
      → ((v : A) (w : B) → P v w → Agrees (k v s) (l w (twin s n frame)))
      → Agrees (unit_answer from to x s k) (unit_answer from to y (twin s n frame) l)
  unit_answered P from to (Ok v) (Ok w) h s n frame k l f = f v w h
  unit_answered P from to (Ok v) (Err e) h s n frame k l f = absurd h
  unit_answered P from to (Err (U.Load (F.Cause c))) y h s n frame k l f =
      subst (λ z. Agrees (over (unit_end (U.Load (F.Cause c)) from to) s) (unit_answer from to z (twin s n frame) l))
      (sym h) (inr (inl refl))
  unit_answered P from to (Err (U.Store (F.Cause c))) y h s n frame k l f =
      subst (λ z. Agrees (over (unit_end (U.Store (F.Cause c)) from to) s)
      (unit_answer from to z (twin s n frame) l)) (sym h) (inr (inl refl))
  unit_answered P from to (Err (U.Load F.Outside)) y h s n frame k l f = inl tt
  unit_answered P from to (Err (U.Store F.Outside)) y h s n frame k l f = inl tt
  unit_answered P from to (Err (U.Load (F.Unspecified u))) y h s n frame k l f = inl tt
  unit_answered P from to (Err (U.Store (F.Unspecified u))) y h s n frame k l f = inl tt

  pub sim_answer : {A : Type 0} {known : List Value} (given : A → List Value) (pos : Pos) (x y : Result A Fault)
      → ((m : M) → AllGood r m known → Answers (Both (λ v. AllGood r m (given v))) x y)
      → Sim known given (answer pos x) (answer pos y)
  sim_answer given pos x y h = record {
    grows = grows_answer pos x;
    agrees = λ s n frame e a k l g f. answered (Both (λ v. AllGood r s.mem (given v))) pos x y (h s.mem a) s n frame
        k l (λ v w b. subst (λ z. Agrees (k v s) (l z (twin s n frame))) b.0 (f v s n (here s n frame e) b.1));
  }

  abbrev pub AsksAlike : {A : Type 0} → List Value → (A → List Value) → (M → Result A Fault) → (N → Result A Fault)
      → Type 0
  AsksAlike {A} known given f g = (first frame : ℕ) (m : M) (n : N) → r.stand objects first frame m n
      → AllGood r m known → Answers (Both (λ v. AllGood r m (given v))) (f m) (g n)

  pub sim_ask : {A : Type 0} {known : List Value} (given : A → List Value) (pos : Pos) (f : M → Result A Fault)
      (g : N → Result A Fault) → AsksAlike known given f g → Sim known given (ask pos f) (ask pos g)
  sim_ask given pos f g h = record {
    grows = λ s k gr. grows_answer pos (f s.mem) s k gr;
    agrees = λ s n frame e a k l gr q.
        answered (Both (λ v. AllGood r s.mem (given v))) pos (f s.mem) (g n) (h s.first frame s.mem n e.memory a) s n
        frame k l
        (λ v w b. subst (λ z. Agrees (k v s) (l z (twin s n frame))) b.0 (q v s n (here s n frame e) b.1));
  }

  -- an answer about a state
  pub sim_state : {A : Type 0} {known : List Value} (given : A → List Value) (pos : Pos)
      (f : State M → Result A Fault) (g : State N → Result A Fault)
      → ((s : State M) (n : N) (frame : ℕ) → Stands s n frame → AllGood r s.mem known
      → Answers (Both (λ v. AllGood r s.mem (given v))) (f s) (g (twin s n frame)))
      → Sim known given (λ s. answer pos (f s) s) (λ s. answer pos (g s) s)
  sim_state given pos f g h = record {
    grows = λ s k gr. grows_answer pos (f s) s k gr;
    agrees = λ s n frame e a k l gr q.
        answered (Both (λ v. AllGood r s.mem (given v))) pos (f s) (g (twin s n frame)) (h s n frame e a) s n frame k l
        (λ v w b. subst (λ z. Agrees (k v s) (l z (twin s n frame))) b.0 (q v s n (here s n frame e) b.1));
  }

  -- ---- turns

  grows_turn : (j : ℕ) → KeepsOutput {M = M} (turn_from j)
  grows_turn zero s k g = begins_refl s.done.output
  grows_turn (suc j) s k g = g tt (record s { left = j })

  pub sim_turn : {known : List Value} → Sim known no_values turn turn
  sim_turn = record {
    grows = λ s k g. grows_turn s.left s k g;
    agrees =
        λ s n frame e a k l g f. go s.left s n frame e k l f;
  }
    where
      go : (j : ℕ) (s : State M) (n : N) (frame : ℕ) → Stands s n frame
          → (k : Unit {0} → State M → Fate) (l : Unit {0} → State N → Fate)
          → ((x : Unit {0}) (t : State M) (u : N) → Onward s n frame t u → Unit {0}
          → Agrees (k x t) (l x (twin t u frame)))
          → Agrees (turn_from j s k) (turn_from j (twin s n frame) l)
      go zero s n frame e k l f = inr (inl refl)
      go (suc j) s n frame e k l f =
          f tt (record s { left = j }) n
          (record {
            stands = record { memory = e.memory; vars = e.vars };
            later =
                order.same s.mem n;
            first = refl;
          }) tt

  -- ---- variables

  pub vars_set : (m : M) (vs : List (Option Value)) (x : ℕ) (v : Value) → VarsGood r m vs → r.good m v
      → VarsGood r m (slice_set vs x (Some v))
  vars_set m [] x v g h = tt
  vars_set m (None ∷ vs) zero v g h = (h, g)
  vars_set m (Some w ∷ vs) zero v g h = (h, g.1)
  vars_set m (None ∷ vs) (suc x) v g h = vars_set m vs x v g h
  vars_set m (Some w ∷ vs) (suc x) v g h = (g.0, vars_set m vs x v g.1 h)

  pub vars_unset : (m : M) (vs : List (Option Value)) (x : ℕ) → VarsGood r m vs → VarsGood r m (slice_set vs x None)
  vars_unset m [] x g = tt
  vars_unset m (None ∷ vs) zero g = g
  vars_unset m (Some w ∷ vs) zero g = g.1
  vars_unset m (None ∷ vs) (suc x) g = vars_unset m vs x g
  vars_unset m (Some w ∷ vs) (suc x) g = (g.0, vars_unset m vs x g.1)

  -- a variable gets a value that is known
  pub sim_set_variable : {known : List Value} (x : ℕ) (v : Value) → ((m : M) → AllGood r m known → r.good m v)
      → Sim known no_values (set_variable x (Some v)) (set_variable x (Some v))
  sim_set_variable x v h = record {
    grows = λ s k g. g tt (record s { vars = slice_set s.vars x (Some v) });
    agrees = λ s n frame e a k l g f. f tt (record s { vars = slice_set s.vars x (Some v) }) n
        (record {
          stands = record { memory = e.memory; vars = vars_set s.mem s.vars x v e.vars (h s.mem a) };
          later = order.same s.mem n;
          first = refl;
        }) tt;
  }

  pub sim_unset_variable : {known : List Value} (x : ℕ)
      → Sim known no_values (set_variable x None) (set_variable x None)
  sim_unset_variable x = record {
    grows = λ s k g. g tt (record s { vars = slice_set s.vars x None });
    agrees = λ s n frame e a k l g f. f tt (record s { vars = slice_set s.vars x None }) n
        (record {
          stands = record { memory = e.memory; vars = vars_unset s.mem s.vars x e.vars };
          later = order.same s.mem n;
          first = refl;
        }) tt;
  }

  -- ---- memories

  -- the memory of a state changes
  pub changed : (s : State M) (n : N) (frame : ℕ) → Stands s n frame → (m' : M) (n' : N)
      → Moved r objects s.first frame s.mem n m' n' → Onward s n frame (record s { mem = m' }) n'
  changed s n frame e m' n' h = record {
    stands = record { memory = h.0; vars = vars_climb s.mem m' n n' s.vars h.1 e.vars };
    later = h.1;
    first = refl;
  }

  pub sim_change : {known : List Value} (f : State M → M) (g : State N → N)
      → ((s : State M) (n : N) (frame : ℕ) → Stands s n frame → AllGood r s.mem known
      → Moved r objects s.first frame s.mem n (f s) (g (twin s n frame)))
      → Sim {A = Unit {0}} known no_values (λ s k. k tt (record s { mem = f s })) (λ s k. k tt (record s { mem = g s }))
  sim_change f g h = record {
    grows = λ s k gr. gr tt (record s { mem = f s });
    agrees = λ s n frame e a k l gr q. q tt (record s { mem = f s }) (g (twin s n frame))
        (changed s n frame e (f s) (g (twin s n frame)) (h s n frame e a)) tt;
  }

  -- an answer becomes the memory
  pub sim_memory : {known : List Value} (pos : Pos) (f : M → Result M Fault) (g : N → Result N Fault)
      → ((first frame : ℕ) (m : M) (n : N) → r.stand objects first frame m n → AllGood r m known
      → Answers (Moved r objects first frame m n) (f m) (g n))
      → Sim known no_values (ask pos f >>= λ m. set_memory m) (ask pos g >>= λ m. set_memory m)
  sim_memory pos f g h = record {
    grows = λ s k gr. grows_answer pos (f s.mem) s _ (λ m t. gr tt (record t { mem = m }));
    agrees = λ s n frame e a k l gr q.
        answered (Moved r objects s.first frame s.mem n) pos (f s.mem) (g n) (h s.first frame s.mem n e.memory a) s n
        frame _ _
        (λ m' n' b. q tt (record s { mem = m' }) n' (changed s n frame e m' n' b) tt);
  }

  -- ---- the outside

  module _ (w : World) where
    grows_put : (b : ℕ) (f : Bool)
        → KeepsOutput {M = M} {A = Unit {0}}
        (choose f (ends ending.WriteFault) (λ t k. k tt (record t { done = with_put t.done b })))
    grows_put b true s k g = begins_refl s.done.output
    grows_put b false s k g =
        let t : State M = record s { done = with_put s.done b } in
        let e : BeginsWith (k tt t).done.output t.done.output = g tt t in
        begins_trans s.done.output t.done.output (k tt t).done.output (begins_more s.done.output (b ∷ [])) e

    pub sim_put : {known : List Value} (b : ℕ) → Sim known no_values (put w b) (put w b)
    sim_put b = record {
      grows = λ s k g. grows_put b (fails_after w.failing_put (length s.done.output)) s k g;
      agrees = λ s n frame e a k l g f. go (fails_after w.failing_put (length s.done.output)) s n frame e k l f;
    }
      where
        go : (j : Bool) (s : State M) (n : N) (frame : ℕ) → Stands s n frame
            → (k : Unit {0} → State M → Fate) (l : Unit {0} → State N → Fate)
            → ((x : Unit {0}) (t : State M) (u : N) → Onward s n frame t u → Unit {0}
            → Agrees (k x t) (l x (twin t u frame)))
            → Agrees (choose j (ends ending.WriteFault) (λ t k. k tt (record t { done = with_put t.done b })) s k)
            (choose j (ends ending.WriteFault) (λ t k. k tt (record t { done = with_put t.done b }))
            (twin s n frame) l)
        go true s n frame e k l f = inr (inl refl)
        go false s n frame e k l f = f tt (record s { done = with_put s.done b }) n
            (record {
              stands = record { memory = e.memory; vars = e.vars };
              later =
                  order.same s.mem n;
              first = refl;
            }) tt

    grows_get : (f : Bool) → KeepsOutput {M = M}
        (choose f (ends ending.ReadFault)
        (λ t k. k (slice_get w.bytes t.done.reads) (record t { done = with_read t.done })))
    grows_get true s k g = begins_refl s.done.output
    grows_get false s k g = g (slice_get w.bytes s.done.reads) (record s { done = with_read s.done })

    pub sim_get : {known : List Value} (given : Option ℕ → List Value)
        → ((m : M) (i : ℕ) → AllGood r m (given (slice_get w.bytes i))) → Sim known given (get w) (get w)
    sim_get given h = record {
      grows = λ s k g. grows_get (fails_after w.failing_read s.done.reads) s k g;
      agrees = λ s n frame e a k l g f. go (fails_after w.failing_read s.done.reads) s n frame e k l f;
    }
      where
        go : (j : Bool) (s : State M) (n : N) (frame : ℕ) → Stands s n frame
            → (k : Option ℕ → State M → Fate) (l : Option ℕ → State N → Fate)
            → ((x : Option ℕ) (t : State M) (u : N) → Onward s n frame t u → AllGood r t.mem (given x)
            → Agrees (k x t) (l x (twin t u frame)))
            → Agrees (choose j (ends ending.ReadFault)
            (λ t k. k (slice_get w.bytes t.done.reads) (record t { done = with_read t.done })) s k)
            (choose j (ends ending.ReadFault)
            (λ t k. k (slice_get w.bytes t.done.reads) (record t { done = with_read t.done }))
            (twin s n frame) l)
        go true s n frame e k l f = inr (inl refl)
        go false s n frame e k l f =
            f (slice_get w.bytes s.done.reads) (record s { done = with_read s.done }) n
            (record {
              stands = record { memory = e.memory; vars = e.vars };
              later =
                  order.same s.mem n;
              first = refl;
            }) (h s.mem s.done.reads)
