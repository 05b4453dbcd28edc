-- Calls agree, and so do programs.
use Rattle.std.proofs.Common.{◌≡◌, ℕ, zero, suc, ◌+◌, ◌<◌, List, [], ◌∷◌, ◌++◌, length, replicate, Option, Some, None}
use Rattle.std.proofs.Common.{refl, sym, subst, inl, inr}
use Rattle.std.specs.Prelude.{slice_get}
use Rattle.std.specs.List.{AllByRecursion}
use Rattle.ck_base.specs.World.{World}
use Rattle.ck_base.specs.Calls.{BeginsWith}
use Rattle.ck_base.proofs.Fronts.{begins_refl}
use Rattle.ck_base.specs.declared.positions.Pos.{Pos}
use Rattle.obj_mem.specs.declared.ending.Ending.TheVariants as ending
use Rattle.obj_mem.specs.Values.{Value, Int}
use Rattle.cheri_c_sem.specs.Kinds.{Kind, nothing}
use Rattle.cheri_c_sem.specs.Operations.{Operations}
use Rattle.cheri_c_sem.specs.Steps.{State, Fate, Then, ◌>>=◌, ◌>>◌, give}
use Rattle.cheri_c_sem.specs.Tree.{Parameter, In_variable, In_object, At_end, Gives_nothing, Gives_zero, Lacks, Fun}
use Rattle.cheri_c_sem.specs.Meaning.{At, store}
use Rattle.cheri_c_sem.specs.Statements.{Flow, Goes, Breaks, Continues, Returns, exec}
use Rattle.cheri_c_sem.specs.Calls as parts
use Rattle.cheri_c_sem.specs.Calls.{add_locals, end_locals, pass_one, pass, at_end, result_of, close, back, in_frame}
use Rattle.cheri_c_sem.specs.Calls.{calls}
use Rattle.placement.specs.Endings.{Agrees}
use Rattle.placement.specs.Runs.{twin, exits}
use Rattle.placement.specs.Relations.{IsWord, Relation, AllGood, VarsGood, Keeps, Entry}
use Rattle.placement.specs.Trees.{ParameterFit, ParametersFit, FunctionFit, FunctionsFit}
use Rattle.placement.proofs.Sim.{Grows, no_values, itself, Stands, Onward, Sim, vars_climb, sim_give, sim_ends}
use Rattle.placement.proofs.Sim.{sim_bind, sim_then, sim_answer, sim_set_variable, sim_change}
use Rattle.placement.proofs.Operated.{nothing_good}
use Rattle.placement.proofs.SimExpressions.{alone, sim_store}
use Rattle.placement.proofs.SimStatements.{in_flow, sim_exec}

module _ {M N : Type 0} {r : Relation M N} {ops : Operations M} {pops : Operations N} {globals : ℕ} {funs : List Fun}
    (k : Keeps r ops pops globals (length funs) funs)
    (w : World) (bytes_good : AllByRecursion IsWord w.bytes) where
  module _ (objects : ℕ) where
    -- ---- arguments

    -- an object is zeroed, and a value stored at a pointer to it
    abbrev zeroed_with : {X : Type 0} → Operations X → ℕ → Pos → Kind → Value → Value → Then X (Unit {0})
    zeroed_with {X} o i p j v to =
        let zeroed : Then X (Unit {0}) = λ s k. k tt (record s { mem = o.zero s.mem (s.first + i) }) in
        zeroed >> store o w j (At p to) v

    sim_zeroed : {known : List Value} (p : Pos) (i : ℕ) (j : Kind) (v to : Value) → i < objects
        → ((m : M) → AllGood r m known → r.good m v)
        → Sim k.order objects known no_values (zeroed_with ops i p j v to) (zeroed_with pops i p j v to)
    sim_zeroed p i j v to h g = sim_then k.order objects no_values no_values
        (sim_change k.order objects (λ s. ops.zero s.mem (s.first + i)) (λ s. pops.zero s.mem (s.first + i))
        (λ s n frame e a. k.zeros objects s.first frame s.mem n e.memory i h))
        (sim_store k w bytes_good objects j (At p to) v g)

    sim_pass_one : {known : List Value} (p : Pos) (a : Parameter) (v : Value)
        → ParameterFit globals (length funs) objects a → ((m : M) → AllGood r m known → r.good m v)
        → Sim k.order objects known no_values (pass_one ops w p a v) (pass_one pops w p a v)
    sim_pass_one p (In_variable x) v h g = sim_set_variable k.order objects x v g
    sim_pass_one {known} p (In_object i j) v h g = record {
      grows = λ s f gr. (sim_zeroed {known = known} p i j v (ops.whole s.mem (s.first + i) 125) h g).grows s f gr;
      agrees = λ s n frame e a f l gr q.
          let b = k.local_pointers objects s.first frame s.mem n e.memory i h in
          subst (λ z. Agrees (pass_one ops w p (In_object i j) v s f)
          (zeroed_with pops i p j v z (twin s n frame) l)) b.0
          ((sim_zeroed {known = known} p i j v (ops.whole s.mem (s.first + i) 125) h g).agrees s n frame e a f l gr q);
    }

    sim_pass : {known : List Value} (p : Pos) (parameters : List Parameter) (vs : List Value)
        → ParametersFit globals (length funs) objects parameters → ((m : M) → AllGood r m known → AllGood r m vs)
        → Sim k.order objects known no_values (pass ops w p parameters vs) (pass pops w p parameters vs)
    sim_pass p [] vs h g = sim_give k.order objects no_values tt (λ m a. tt)
    sim_pass p (a ∷ parameters) [] h g = sim_give k.order objects no_values tt (λ m a. tt)
    sim_pass p (a ∷ parameters) (v ∷ vs) h g = sim_then k.order objects no_values no_values
        (sim_pass_one p a v h.0 (λ m b. (g m b).0)) (sim_pass p parameters vs h.1 (λ m b. (g m b).1))

    -- ---- results

    sim_at_end : {known : List Value} (p : Pos) (e : At_end) → Sim k.order objects known itself (at_end ops w p e)
        (at_end pops w p e)
    sim_at_end p Gives_nothing = sim_give k.order objects itself nothing (λ m a. (nothing_good k m, tt))
    sim_at_end p Gives_zero = sim_give k.order objects itself (Int 0) (λ m a. (nothing_good k m, tt))
    sim_at_end p (Lacks j) = sim_answer k.order objects itself p _ _ (λ m a. alone (r.good m) _ _ (k.falls m j))

    sim_result : (known : List Value) (f : Fun) (flow : Flow) → Sim k.order objects (in_flow flow ++ known) itself
        (result_of ops w f flow) (result_of pops w f flow)
    sim_result known f (Returns v) = sim_give k.order objects itself v (λ m a. (a.0, tt))
    sim_result known f Goes = sim_at_end f.name f.at_end
    sim_result known f Breaks = sim_at_end f.name f.at_end
    sim_result known f Continues = sim_at_end f.name f.at_end

  -- ---- a call

  -- what a function does in its frame, with its arguments
  abbrev work : {X : Type 0} → Operations X → (ℕ → List Value → Then X Value) → Fun → List Value → Then X Value
  work o call f vs = pass o w f.name f.params vs >> (exec o w call f.body >>= λ flow. result_of o w f flow)

  -- and what follows it
  abbrev return : {X : Type 0} → Operations X → Fun → State X → Value → Then X Value
  return o f caller v = close o w f >> (back o w caller >> give v)

  sim_work : (call : ℕ → List Value → Then M Value) (call' : ℕ → List Value → Then N Value)
      → ((objects f : ℕ) (vs : List Value) → Sim k.order objects vs itself (call f vs) (call' f vs))
      → (f : Fun) → FunctionFit globals (length funs) f → (vs : List Value)
      → Sim k.order (length f.objects) vs itself (work ops call f vs) (work pops call' f vs)
  sim_work call call' h f fit vs = sim_then k.order (length f.objects) no_values itself
      (sim_pass (length f.objects) f.name f.params vs fit.params (λ m a. a))
      (sim_bind k.order (length f.objects) in_flow itself
      (sim_exec k w bytes_good (length f.objects) call call' (h (length f.objects)) f.body fit.body)
      (λ flow. sim_result (length f.objects) vs f flow))

  none_good : (m : M) (n : ℕ) → VarsGood r m (replicate n None)
  none_good m zero = tt
  none_good m (suc n) = none_good m n

  all_to : (m m' : M) (vs : List Value) → ((v : Value) → r.good m v → r.good m' v) → AllGood r m vs → AllGood r m' vs
  all_to m m' [] h a = tt
  all_to m m' (v ∷ vs) h a = (h v a.0, all_to m m' vs h a.1)

  module _ (call : ℕ → List Value → Then M Value) (call' : ℕ → List Value → Then N Value)
      (h : (objects f : ℕ) (vs : List Value) → Sim k.order objects vs itself (call f vs) (call' f vs))
      (i : ℕ) (f : Fun) (is : slice_get funs i ≡ Some f) (fit : FunctionFit globals (length funs) f)
      (vs : List Value) where
    grows_frame : (o : Option ℕ) (s : State M) (g : Value → State M → Fate) → Grows g
        → BeginsWith ((parts.frame ops w o i f >> (work ops call f vs >>= λ v. return ops f s v)) s g).done.output
        s.done.output
    grows_frame None s g gr = begins_refl s.done.output
    grows_frame (Some at) s g gr =
        (sim_work call call' h f fit vs).grows
        (record s {
          vars = replicate f.vars None;
          first = ops.count s.mem;
          mem =
              add_locals ops s.mem at i 0 f.objects;
          frame = at;
        }) _
        (λ v t. gr v (record t {
          mem = end_locals ops t.mem t.first f.objects;
          vars = s.vars;
          first = s.first;
          frame = s.frame;
        }))

    -- with room for a frame
    entered : (objects : ℕ) (s : State M) (n : N) (frame at here : ℕ) → Stands k.order objects s n frame
        → AllGood r s.mem vs → Entry r ops pops globals (length funs) objects s.first frame s.mem n i f.objects at here
        → (g : Value → State M → Fate) (l : Value → State N → Fate) → Grows g
        → ((x : Value) (t : State M) (u : N) → Onward k.order objects s n frame t u → AllGood r t.mem (itself x)
        → Agrees (g x t) (l x (twin t u frame)))
        → Agrees ((work ops call f vs >>= λ v. return ops f s v)
        (record s {
          vars = replicate f.vars None;
          first = ops.count s.mem;
          mem =
              add_locals ops s.mem at i 0 f.objects;
          frame = at;
        }) g)
        ((work pops call' f vs >>= λ v. return pops f (twin s n frame) v)
        (record (twin s n frame) {
          vars = replicate f.vars None;
          first =
              pops.count n;
          mem = add_locals pops n here i 0 f.objects;
          frame = here;
        }) l)
    entered objects s n frame at here e a entry g l gr q =
        let m1 : M = add_locals ops s.mem at i 0 f.objects in
        let n1 : N = add_locals pops n here i 0 f.objects in
        let s1 : State M = record s { vars = replicate f.vars None; first = ops.count s.mem; mem = m1; frame = at } in
        let after : State N → Fate = λ t. (work pops call' f vs >>= λ v. return pops f (twin s n frame) v) t l in
        subst (λ c. Agrees ((work ops call f vs >>= λ v. return ops f s v) s1 g)
        (after (record (twin s n frame) { vars = replicate f.vars None; first = c; mem = n1; frame = here })))
        entry.number
        ((sim_work call call' h f fit vs).agrees s1 n1 here
        (record { memory = entry.stand; vars = none_good m1 f.vars }) (all_to s.mem m1 vs entry.climbs a) _ _
        (λ v t. gr v (record t {
          mem = end_locals ops t.mem t.first f.objects;
          vars = s.vars;
          first = s.first;
          frame = s.frame;
        }))
        (λ v t u o b.
        let is_first : t.first ≡ ops.count s.mem = o.first in
        let moved = entry.leaves t.mem u
        (subst (λ c. r.stand (length f.objects) c here t.mem u) is_first o.stands.memory) o.later in
        let m3 : M = end_locals ops t.mem (ops.count s.mem) f.objects in
        let n3 : N = end_locals pops u (ops.count s.mem) f.objects in
        let t3 : State M = record t { mem = m3; vars = s.vars; first = s.first; frame = s.frame } in
        subst (λ c. Agrees (g v (record t {
          mem = end_locals ops t.mem c f.objects;
          vars = s.vars;
          first = s.first;
          frame = s.frame;
        }))
        (l v (record (twin t u here) {
          mem = end_locals pops u c f.objects;
          vars = s.vars;
          first = s.first;
          frame = frame;
        }))) (sym is_first)
        (q v t3 n3 (record {
          stands =
              record { memory = moved.0; vars = vars_climb k.order objects s.mem m3 n n3 s.vars moved.1 e.vars };
          later = moved.1;
          first = refl;
        }) (entry.keeps t.mem v b.0, tt))))

    framed : (objects : ℕ) (s : State M) (n : N) (frame : ℕ) → Stands k.order objects s n frame → AllGood r s.mem vs
        → (g : Value → State M → Fate) (l : Value → State N → Fate) → Grows g
        → ((x : Value) (t : State M) (u : N) → Onward k.order objects s n frame t u → AllGood r t.mem (itself x)
        → Agrees (g x t) (l x (twin t u frame)))
        → (o : Option ℕ) → ops.enter i s.frame ≡ o → (o' : Option ℕ) → pops.enter i frame ≡ o'
        → Agrees ((parts.frame ops w o i f >> (work ops call f vs >>= λ v. return ops f s v)) s g)
        ((parts.frame pops w o' i f >> (work pops call' f vs >>= λ v. return pops f (twin s n frame) v))
        (twin s n frame) l)
    framed objects s n frame e a g l gr q o b None c = inr (inr (tt, grows_frame o s g gr))
    framed objects s n frame e a g l gr q None b (Some here) c = let z =
        k.rooms i s.frame in absurd (let y : ops.enter i s.frame ≡ Some z.0 = z.1 in cc)
    framed objects s n frame e a g l gr q (Some at) b (Some here) c =
        entered objects s n frame at here e a (k.entries objects s.first frame s.mem n e.memory i f is at here c) g l
        gr q

  module _ (fits : FunctionsFit globals funs) where
    sim_in_frame : (call : ℕ → List Value → Then M Value) (call' : ℕ → List Value → Then N Value)
        → ((objects f : ℕ) (vs : List Value) → Sim k.order objects vs itself (call f vs) (call' f vs))
        → (objects i : ℕ) (o : Option Fun) → slice_get funs i ≡ o → (vs : List Value)
        → Sim k.order objects vs itself (in_frame ops w funs call i o vs) (in_frame pops w funs call' i o vs)
    sim_in_frame call call' h objects i None is vs = sim_give k.order objects itself nothing
        (λ m a. (nothing_good k m, tt))
    sim_in_frame call call' h objects i (Some f) is vs = record {
      grows = λ s g gr. grows_frame call call' h i f is (fits i f is) vs (ops.enter i s.frame) s g gr;
      agrees = λ s n frame e a g l gr q. framed call call' h i f is (fits i f is) vs objects s n frame e a g l gr q
          (ops.enter i s.frame) refl (pops.enter i frame) refl;
    }

    pub sim_calls : (depth objects i : ℕ) (vs : List Value)
        → Sim k.order objects vs itself (calls ops w funs depth i vs) (calls pops w funs depth i vs)
    sim_calls zero objects i vs = sim_ends k.order objects itself ending.Turns
    sim_calls (suc depth) objects i vs = sim_in_frame (calls ops w funs depth) (calls pops w funs depth)
        (λ n f us. sim_calls depth n f us) objects i (slice_get funs i) refl vs

-- Where a relation of memories is kept by each operation, runs of a call agree, to any depth of calls
pub runs_agree : {M N : Type 0} (r : Relation M N) (ops : Operations M) (pops : Operations N) (globals : ℕ)
    (funs : List Fun) → Keeps r ops pops globals (length funs) funs → FunctionsFit globals funs
    → (w : World) → AllByRecursion IsWord w.bytes
    → (objects frame depth i : ℕ) (vs : List Value) (s : State M) (n : N) → r.stand objects s.first frame s.mem n
    → VarsGood r s.mem s.vars → AllGood r s.mem vs
    → Agrees (calls ops w funs depth i vs s exits) (calls pops w funs depth i vs (twin s n frame) exits)
runs_agree r ops pops globals funs k fits w bytes_good objects frame depth i vs s n e g a =
    (sim_calls k w bytes_good fits depth objects i vs).agrees s n frame (record { memory = e; vars = g }) a exits
    exits (λ v t. begins_refl t.done.output) (λ v t u o b. inr (inl refl))
