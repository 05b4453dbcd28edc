-- Statements agree, over calls that do.
use Rattle.std.proofs.Common.{◌≡◌, ℕ, zero, suc, ◌+◌, ◌<◌, Bool, true, List, [], ◌∷◌, ◌++◌, Option, Some, None, refl}
use Rattle.std.proofs.Common.{subst}
use Rattle.std.specs.List.{AllByRecursion}
use Rattle.ck_base.specs.World.{World}
use Rattle.ck_base.specs.declared.positions.Pos.{Pos}
use Rattle.ck_int.specs.declared.kinds.CmpOp.TheVariants.{Eq}
use Rattle.obj_mem.specs.declared.ending.Ending.TheVariants as ending
use Rattle.obj_mem.specs.Values.{Value}
use Rattle.obj_mem.specs.Agreement.{Answers}
use Rattle.cheri_c_sem.specs.Kinds.{Kind, Plain, Capability, nothing}
use Rattle.cheri_c_sem.specs.Operations.{Operations, compare_by}
use Rattle.cheri_c_sem.specs.Steps.{State, Then, give}
use Rattle.cheri_c_sem.specs.Tree.{Ex, Declared, Simple, Objects, Label, Case, Default, St, Do, Give, Init, Fill, Block}
use Rattle.cheri_c_sem.specs.Tree.{If, While, Do_while, For, Switch, Break, Continue, Return, Empty, Sts, End, Seq}
use Rattle.cheri_c_sem.specs.Tree as tree
use Rattle.cheri_c_sem.specs.Meaning.{At, value_of}
use Rattle.cheri_c_sem.specs.Statements.{Flow, Goes, Breaks, Continues, Returns, after, after_body, after_switch, loop}
use Rattle.cheri_c_sem.specs.Statements.{repeat, default_of, label_value, enter_one, enter, leave_one, leave, in_block}
use Rattle.cheri_c_sem.specs.Statements.{find_label, switch_on, jump, part_of_local, test_of, step_of, exec, execs}
use Rattle.cheri_c_sem.specs.Statements.{execs_from}
use Rattle.placement.specs.Relations.{IsWord, Both, Relation, AllGood, Keeps}
use Rattle.placement.specs.Trees.{IsFit, DeclaredFit, AllDeclaredFit, TestFit, StepFit, DoesFit, DoFit}
use Rattle.placement.proofs.Sim.{no_values, itself, Stands, Sim, sim_give, sim_ends, sim_bind, sim_then, sim_choose}
use Rattle.placement.proofs.Sim.{sim_ask, sim_state, sim_turn, sim_set_variable, sim_unset_variable, sim_change}
use Rattle.placement.proofs.Operated.{unasked, nothing_good}
use Rattle.placement.proofs.SimExpressions.{in_place, alone, sim_store, sim_copy, sim_test, all_left}
use Rattle.placement.proofs.SimValues.{sim_value, sim_place}

-- the value that is returned
abbrev pub in_flow : Flow → List Value
in_flow Goes = []
in_flow Breaks = []
in_flow Continues = []
in_flow (Returns v) = v ∷ []

module _ {M N : Type 0} {r : Relation M N} {ops : Operations M} {pops : Operations N} {globals functions : ℕ}
    {funs : List tree.Fun} (k : Keeps r ops pops globals functions funs)
    (w : World) (bytes_good : AllByRecursion IsWord w.bytes) (objects : ℕ) where
  -- ---- how statements are left

  sim_after : {known : List Value} (f : Flow) {c : Then M Flow} {d : Then N Flow}
      → Sim k.order objects known in_flow c d → Sim k.order objects (in_flow f ++ known) in_flow (after f c) (after f d)
  sim_after Goes h = h
  sim_after Breaks h = sim_give k.order objects in_flow Breaks (λ m a. tt)
  sim_after Continues h = sim_give k.order objects in_flow Continues (λ m a. tt)
  sim_after (Returns v) h = sim_give k.order objects in_flow (Returns v) (λ m a. (a.0, tt))

  sim_after_body : {known : List Value} (f : Flow) {c : Then M Flow} {d : Then N Flow}
      → Sim k.order objects known in_flow c d → Sim k.order objects (in_flow f ++ known) in_flow (after_body f c)
      (after_body f d)
  sim_after_body Goes h = h
  sim_after_body Continues h = h
  sim_after_body Breaks h = sim_give k.order objects in_flow Goes (λ m a. tt)
  sim_after_body (Returns v) h = sim_give k.order objects in_flow (Returns v) (λ m a. (a.0, tt))

  sim_after_switch : (known : List Value) (f : Flow) → Sim k.order objects (in_flow f ++ known) in_flow
      (after_switch f) (after_switch f)
  sim_after_switch known Goes = sim_give k.order objects in_flow Goes (λ m a. tt)
  sim_after_switch known Breaks = sim_give k.order objects in_flow Goes (λ m a. tt)
  sim_after_switch known Continues = sim_give k.order objects in_flow Continues (λ m a. tt)
  sim_after_switch known (Returns v) = sim_give k.order objects in_flow (Returns v) (λ m a. (a.0, tt))

  sim_jump : {known : List Value} (o : Option ℕ) {f : ℕ → Then M Flow} {g : ℕ → Then N Flow}
      → ((i : ℕ) → Sim k.order objects known in_flow (f i) (g i)) → Sim k.order objects known in_flow (jump o f)
      (jump o g)
  sim_jump None h = sim_give k.order objects in_flow Goes (λ m a. tt)
  sim_jump {known} (Some i) h = sim_bind k.order objects in_flow in_flow (h i) (λ flow. sim_after_switch known flow)

  -- ---- loops

  sim_loop : {known : List Value} (n : ℕ) {t : Then M Bool} {t' : Then N Bool} {c : Then M Flow} {c' : Then N Flow}
      {u : Then M (Unit {0})} {u' : Then N (Unit {0})}
      → Sim k.order objects known no_values t t' → Sim k.order objects known in_flow c c'
      → Sim k.order objects known no_values u u' → Sim k.order objects known in_flow (loop n t c u)
      (loop n t' c' u')
  sim_loop zero ht hc hu = sim_ends k.order objects in_flow ending.Turns
  sim_loop (suc n) ht hc hu = sim_bind k.order objects no_values in_flow ht (λ v. sim_choose k.order objects in_flow v
      (sim_bind k.order objects in_flow in_flow hc (λ f. sim_after_body f
      (sim_then k.order objects no_values in_flow hu
      (sim_then k.order objects no_values in_flow (sim_turn k.order objects) (sim_loop n ht hc hu)))))
      (sim_give k.order objects in_flow Goes (λ m a. tt)))

  sim_repeat : {known : List Value} (n : ℕ) {c : Then M Flow} {c' : Then N Flow} {t : Then M Bool} {t' : Then N Bool}
      → Sim k.order objects known in_flow c c' → Sim k.order objects known no_values t t'
      → Sim k.order objects known in_flow (repeat n c t) (repeat n c' t')
  sim_repeat zero hc ht = sim_ends k.order objects in_flow ending.Turns
  sim_repeat (suc n) hc ht = sim_bind k.order objects in_flow in_flow hc (λ f. sim_after_body f
      (sim_bind k.order objects no_values in_flow ht (λ v. sim_choose k.order objects in_flow v
      (sim_then k.order objects no_values in_flow (sim_turn k.order objects) (sim_repeat n hc ht))
      (sim_give k.order objects in_flow Goes (λ m a. tt)))))

  -- ---- blocks

  sim_enter_one : {known : List Value} (d : Declared) → DeclaredFit globals functions objects d
      → Sim k.order objects known no_values (enter_one ops w d) (enter_one pops w d)
  sim_enter_one (Simple x) h = sim_unset_variable k.order objects x
  sim_enter_one (Objects i) h = sim_change k.order objects (λ s. ops.zero s.mem (s.first + i))
      (λ s. pops.zero s.mem (s.first + i)) (λ s n frame e a. k.zeros objects s.first frame s.mem n e.memory i h)

  sim_enter : {known : List Value} (ds : List Declared) → AllDeclaredFit globals functions objects ds
      → Sim k.order objects known no_values (enter ops w ds) (enter pops w ds)
  sim_enter [] h = sim_give k.order objects no_values tt (λ m a. tt)
  sim_enter (d ∷ ds) h = sim_then k.order objects no_values no_values (sim_enter_one d h.0) (sim_enter ds h.1)

  sim_leave_one : {known : List Value} (d : Declared) → DeclaredFit globals functions objects d
      → Sim k.order objects known no_values (leave_one ops w d) (leave_one pops w d)
  sim_leave_one (Simple x) h = sim_give k.order objects no_values tt (λ m a. tt)
  sim_leave_one (Objects i) h = sim_change k.order objects (λ s. ops.leave s.mem (s.first + i))
      (λ s. pops.leave s.mem (s.first + i)) (λ s n frame e a. k.leaves objects s.first frame s.mem n e.memory i h)

  sim_leave : {known : List Value} (ds : List Declared) → AllDeclaredFit globals functions objects ds
      → Sim k.order objects known no_values (leave ops w ds) (leave pops w ds)
  sim_leave [] h = sim_give k.order objects no_values tt (λ m a. tt)
  sim_leave (d ∷ ds) h = sim_then k.order objects no_values no_values (sim_leave_one d h.0) (sim_leave ds h.1)

  sim_in_block : {known : List Value} (ds : List Declared) {c : Then M Flow} {d : Then N Flow}
      → AllDeclaredFit globals functions objects ds → Sim k.order objects known in_flow c d
      → Sim k.order objects known in_flow (in_block ops w ds c) (in_block pops w ds d)
  sim_in_block {known} ds h cd = sim_then k.order objects no_values in_flow (sim_enter ds h)
      (sim_bind k.order objects in_flow in_flow cd (λ f.
      sim_then k.order objects no_values in_flow (sim_leave ds h)
      (sim_give k.order objects in_flow f (λ m a. all_left k w bytes_good objects m (in_flow f) known a))))

  -- ---- `switch`

  same_label : (first frame : ℕ) (m : M) (n : N) → r.stand objects first frame m n → (j : Kind) (v : Value) (c : ℕ)
      → r.good m v → Answers ◌≡◌ (compare_by ops m Eq j v (label_value j c))
      (compare_by pops n Eq j v (label_value j c))
  same_label first frame m n e (Plain i) v c g = refl
  same_label first frame m n e (Capability signed) v c g = k.labels objects first frame m n e signed v c g

  sim_find_label : {known : List Value} (p : Pos) (j : Kind) (v : Value) (ls : List Label) (otherwise : Option ℕ)
      → ((m : M) → AllGood r m known → r.good m v)
      → Sim k.order objects known no_values (find_label ops w p j v ls otherwise) (find_label pops w p j v ls otherwise)
  sim_find_label p j v [] otherwise g = sim_give k.order objects no_values otherwise (λ m a. tt)
  sim_find_label p j v (Default i ∷ ls) otherwise g = sim_find_label p j v ls otherwise g
  sim_find_label p j v (Case c i ∷ ls) otherwise g =
      sim_bind k.order objects no_values no_values
      (sim_ask k.order objects no_values p _ _
      (λ first frame m n e a. unasked _ _ (same_label first frame m n e j v c (g m a))))
      (λ same. sim_choose k.order objects no_values same (sim_give k.order objects no_values (Some i) (λ m a. tt))
      (sim_find_label p j v ls otherwise g))

  sim_switch_on : {known : List Value} (p : Pos) (j : Kind) (v : Value) (ds : List Declared) (ls : List Label)
      {f : ℕ → Then M Flow} {g : ℕ → Then N Flow} → AllDeclaredFit globals functions objects ds
      → ((m : M) → AllGood r m known → r.good m v) → ((i : ℕ) → Sim k.order objects known in_flow (f i) (g i))
      → Sim k.order objects known in_flow (switch_on ops w p j v ds ls f) (switch_on pops w p j v ds ls g)
  sim_switch_on p j v ds ls hd g h =
      sim_in_block ds hd (sim_bind k.order objects no_values in_flow (sim_find_label p j v ls (default_of ls) g)
      (λ to. sim_jump to h))

  -- ---- initialisation

  -- a pointer to a local, moved
  part_alike : (p : Pos) (local offset : ℕ) → local < objects → (s : State M) (n : N) (frame : ℕ)
      → Stands k.order objects s n frame
      → Answers (Both (λ v. r.good s.mem v × Unit {0}))
      (ops.offset s.mem (ops.whole s.mem (s.first + local) 125) offset)
      (pops.offset n (pops.whole n (s.first + local) 125) offset)
  part_alike p local offset h s n frame e =
      let b = k.local_pointers objects s.first frame s.mem n e.memory local h in
      let v = ops.whole s.mem (s.first + local) 125 in
      subst (λ z. Answers (Both (λ v. r.good s.mem v × Unit {0})) (ops.offset s.mem v offset)
      (pops.offset n z offset)) b.0
      (alone (r.good s.mem) _ _ (k.offsets objects s.first frame s.mem n e.memory v offset b.1))

  pub sim_part : {known : List Value} (p : Pos) (local offset : ℕ) → local < objects
      → Sim k.order objects known in_place (part_of_local ops w p local offset) (part_of_local pops w p local offset)
  sim_part p local offset h = sim_bind k.order objects itself in_place
      (sim_state k.order objects itself p (λ s. ops.offset s.mem (ops.whole s.mem (s.first + local) 125) offset)
      (λ s. pops.offset s.mem (pops.whole s.mem (s.first + local) 125) offset)
      (λ s n frame e a. part_alike p local offset h s n frame e))
      (λ v. sim_give k.order objects in_place (At p v) (λ m a. (a.0, tt)))

  module _ (call : ℕ → List Value → Then M Value) (call' : ℕ → List Value → Then N Value)
      (calls : (f : ℕ) (vs : List Value) → Sim k.order objects vs itself (call f vs) (call' f vs)) where
    sim_test_of : {known : List Value} (o : Option (Pos × Kind × Ex)) → TestFit globals functions objects o
        → Sim k.order objects known no_values (test_of ops w call o) (test_of pops w call' o)
    sim_test_of None h = sim_give k.order objects no_values true (λ m a. tt)
    sim_test_of (Some t) h =
        sim_bind k.order objects itself no_values (sim_value k w bytes_good objects call call' calls t.2 h)
        (λ v. sim_test k w bytes_good objects t.0 t.1 v (λ m a. a.0))

    sim_step_of : {known : List Value} (o : Option Ex) → StepFit globals functions objects o
        → Sim k.order objects known no_values (step_of ops w call o) (step_of pops w call' o)
    sim_step_of None h = sim_give k.order objects no_values tt (λ m a. tt)
    sim_step_of (Some e) h =
        sim_then k.order objects itself no_values (sim_value k w bytes_good objects call call' calls e h)
        (sim_give k.order objects no_values tt (λ m a. tt))

    -- a loop of as many turns as are left
    sim_while : {known : List Value} {t : Then M Bool} {t' : Then N Bool} {c : Then M Flow} {c' : Then N Flow}
        {u : Then M (Unit {0})} {u' : Then N (Unit {0})}
        → Sim k.order objects known no_values t t' → Sim k.order objects known in_flow c c'
        → Sim k.order objects known no_values u u'
        → Sim k.order objects known in_flow (λ s. loop (suc s.left) t c u s) (λ s. loop (suc s.left) t' c' u' s)
    sim_while ht hc hu = record {
      grows = λ s f g. (sim_loop (suc s.left) ht hc hu).grows s f g;
      agrees = λ s n frame e a f l g q. (sim_loop (suc s.left) ht hc hu).agrees s n frame e a f l g q;
    }

    sim_do : {known : List Value} {c : Then M Flow} {c' : Then N Flow} {t : Then M Bool} {t' : Then N Bool}
        → Sim k.order objects known in_flow c c' → Sim k.order objects known no_values t t'
        → Sim k.order objects known in_flow (λ s. repeat (suc s.left) c t s) (λ s. repeat (suc s.left) c' t' s)
    sim_do hc ht = record {
      grows = λ s f g. (sim_repeat (suc s.left) hc ht).grows s f g;
      agrees = λ s n frame e a f l g q. (sim_repeat (suc s.left) hc ht).agrees s n frame e a f l g q;
    }

    value : {known : List Value} (e : Ex) → IsFit globals functions objects e
        → Sim k.order objects known itself (value_of ops w call e) (value_of pops w call' e)
    value e h = sim_value k w bytes_good objects call call' calls e h

    goes : {known : List Value} → Sim k.order objects known in_flow (give Goes) (give Goes)
    goes = sim_give k.order objects in_flow Goes (λ m a. tt)

    mutual
      pub sim_exec : {known : List Value} (a : St) → DoesFit globals functions objects a
          → Sim k.order objects known in_flow (exec ops w call a) (exec pops w call' a)
      sim_exec (Do e) h = sim_then k.order objects itself in_flow (value e h) goes
      sim_exec (Give x e) h = sim_bind k.order objects itself in_flow (value e h)
          (λ v. sim_then k.order objects no_values in_flow (sim_set_variable k.order objects x v (λ m a. a.0)) goes)
      sim_exec (Init p local offset j e) h = sim_bind k.order objects itself in_flow (value e h.1)
          (λ v. sim_bind k.order objects in_place in_flow (sim_part p local offset h.0) (λ to.
          sim_then k.order objects no_values in_flow (sim_store k w bytes_good objects j to v (λ m a. a.1.0)) goes))
      sim_exec (Fill p local offset bytes unit e) h =
          sim_bind k.order objects in_place in_flow (sim_place k w bytes_good objects call call' calls e h.1) (λ from.
          sim_bind k.order objects in_place in_flow (sim_part p local offset h.0)
          (λ to. sim_then k.order objects no_values in_flow
          (sim_copy k w bytes_good objects p bytes unit from to) goes))
      sim_exec (Block ds ss) h = sim_in_block ds h.0 (sim_execs ss h.1)
      sim_exec (If p j e a b) h = sim_bind k.order objects itself in_flow (value e h.0)
          (λ v. sim_bind k.order objects no_values in_flow (sim_test k w bytes_good objects p j v (λ m a. a.0)) (λ c.
          sim_choose k.order objects in_flow c (sim_exec a h.1) (sim_exec b h.2)))
      sim_exec (While p j e b) h = sim_while (sim_test_of (Some (p, j, e)) h.0) (sim_exec b h.1)
          (sim_give k.order objects no_values tt (λ m a. tt))
      sim_exec (Do_while p j b e) h = sim_do (sim_exec b h.1) (sim_test_of (Some (p, j, e)) h.0)
      sim_exec (For ds first t step b) h =
          sim_in_block ds h.0 (sim_bind k.order objects in_flow in_flow (sim_execs first h.1) (λ f.
          sim_after f (sim_while (sim_test_of t h.2) (sim_exec b h.4) (sim_step_of step h.3))))
      sim_exec (Switch p j e ds ls ss) h = sim_bind k.order objects itself in_flow (value e h.0)
          (λ v. sim_switch_on p j v ds ls h.1 (λ m a. a.0) (λ i. sim_execs_from ss i h.2))
      sim_exec Break h = sim_give k.order objects in_flow Breaks (λ m a. tt)
      sim_exec Continue h = sim_give k.order objects in_flow Continues (λ m a. tt)
      sim_exec (Return None) h = sim_give k.order objects in_flow (Returns nothing) (λ m a. (nothing_good k m, tt))
      sim_exec (Return (Some e)) h = sim_bind k.order objects itself in_flow (value e h)
          (λ v. sim_give k.order objects in_flow (Returns v) (λ m a. (a.0, tt)))
      sim_exec Empty h = goes

      pub sim_execs : {known : List Value} (ss : Sts) → DoFit globals functions objects ss
          → Sim k.order objects known in_flow (execs ops w call ss) (execs pops w call' ss)
      sim_execs End h = goes
      sim_execs (Seq a ss) h = sim_bind k.order objects in_flow in_flow (sim_exec a h.0)
          (λ f. sim_after f (sim_execs ss h.1))

      pub sim_execs_from : {known : List Value} (ss : Sts) (i : ℕ) → DoFit globals functions objects ss
          → Sim k.order objects known in_flow (execs_from ops w call ss i) (execs_from pops w call' ss i)
      sim_execs_from End i h = goes
      sim_execs_from (Seq a ss) zero h = sim_bind k.order objects in_flow in_flow (sim_exec a h.0)
          (λ f. sim_after f (sim_execs ss h.1))
      sim_execs_from (Seq a ss) (suc i) h = sim_execs_from ss i h.1
