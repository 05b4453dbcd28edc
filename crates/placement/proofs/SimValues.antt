-- The values and places of expressions agree, over calls that do.
use Rattle.std.proofs.Common.{ℕ, Bool, true, false, not, List, [], ◌∷◌, arith}
use Rattle.std.specs.Prelude.{if◌then◌else◌}
use Rattle.std.specs.List.{AllByRecursion}
use Rattle.ck_base.specs.World.{World}
use Rattle.ck_base.specs.declared.positions.Pos.{Pos}
use Rattle.obj_mem.specs.Values.{Value, Int, Fun}
use Rattle.cheri_c_sem.specs.Kinds.{Kind, null_at, truth}
use Rattle.cheri_c_sem.specs.Operations.{Operations, convert_by}
use Rattle.cheri_c_sem.specs.Steps.{Then, give, ask}
use Rattle.cheri_c_sem.specs.Tree.{Ex, Number, Null, Load, Aggregate, Pointer_to, Convert, Discard, Unary, Not, Binary}
use Rattle.cheri_c_sem.specs.Tree.{Compare, And, Or, Conditional, Comma, Assign, Copy, Compound, Call, Library}
use Rattle.cheri_c_sem.specs.Tree.{Variable, Local, Object, Function, Deref, Member, Exs, Nil, Cons}
use Rattle.cheri_c_sem.specs.Tree as tree
use Rattle.cheri_c_sem.specs.Meaning.{In, At, capability_of, operate_by, value_of, place_of, values_of}
use Rattle.placement.specs.Relations.{IsWord, Relation, AllGood, Keeps}
use Rattle.placement.specs.Trees.{IsFit, AreFit}
use Rattle.placement.proofs.Sim.{no_values, itself, Sim, sim_give, sim_bind, sim_then, sim_known, sim_choose, sim_ask}
use Rattle.placement.proofs.Sim.{sim_turn}
use Rattle.placement.proofs.Operated.{unasked, truth_good, compared, converts, operates, signs}
use Rattle.placement.proofs.SimExpressions.{in_place, all_of, alone, sim_load, sim_store, sim_copy, sim_test}
use Rattle.placement.proofs.SimExpressions.{sim_point_to, sim_called, sim_serve, all_left, all_right, sim_nothing}
use Rattle.placement.proofs.SimExpressions.{sim_nowhere, sim_whole}

module _ {M N : Type 0} {r : Relation M N} {ops : Operations M} {pops : Operations N} {globals functions : ℕ}
    {funs : List tree.Fun} (k : Keeps r ops pops globals functions funs)
    (w : World) (bytes_good : AllByRecursion IsWord w.bytes) (objects : ℕ) where
  sim_truth : {known : List Value} (b : Bool) → Sim k.order objects known itself (give (truth b)) (give (truth b))
  sim_truth b = sim_give k.order objects itself (truth b) (λ m a. (truth_good k m b, tt))

  sim_convert : {known : List Value} (p : Pos) (old new : Kind) (v : Value)
      → ((m : M) → AllGood r m known → r.good m v)
      → Sim k.order objects known itself (ask p (λ m. convert_by ops m old new v))
      (ask p (λ m. convert_by pops m old new v))
  sim_convert p old new v h = sim_ask k.order objects itself p _ _
      (λ first frame m n e a. alone (r.good m) _ _ (converts k m w objects first frame n e old new v (h m a)))

  sim_operate : {known : List Value} (p : Pos) (op : tree.Operation) (x y : Value)
      → ((m : M) → AllGood r m known → r.good m x × r.good m y)
      → Sim k.order objects known itself (ask p (λ m. operate_by ops w op m x y))
      (ask p (λ m. operate_by pops w op m x y))
  sim_operate p op x y h = sim_ask k.order objects itself p _ _
      (λ first frame m n e a. let g =
      h m a in alone (r.good m) _ _ (operates k m w objects first frame n e op x y g.0 g.1))

  sim_old : {known : List Value} (old : Bool) (x z : Value) → ((m : M) → AllGood r m known → r.good m x × r.good m z)
      → Sim k.order objects known itself (give (if old then x else z)) (give (if old then x else z))
  sim_old true x z h = sim_give k.order objects itself x (λ m a. ((h m a).0, tt))
  sim_old false x z h = sim_give k.order objects itself z (λ m a. ((h m a).1, tt))

  module _ (call : ℕ → List Value → Then M Value) (call' : ℕ → List Value → Then N Value)
      (calls : (f : ℕ) (vs : List Value) → Sim k.order objects vs itself (call f vs) (call' f vs)) where
    mutual
      pub sim_value : {known : List Value} (e : Ex) → IsFit globals functions objects e
          → Sim k.order objects known itself (value_of ops w call e) (value_of pops w call' e)
      sim_value (Number v) h = sim_give k.order objects itself (Int v) (λ m a. (k.words m v h, tt))
      sim_value (Null v) h = sim_give k.order objects itself (null_at v) (λ m a. (k.nulls m v h, tt))
      sim_value (Load j e) h = sim_bind k.order objects in_place itself (sim_place e h)
          (λ from. sim_load k w bytes_good objects j from)
      sim_value (Aggregate e) h = sim_then k.order objects in_place itself (sim_place e h)
          (sim_nothing k w bytes_good objects)
      sim_value (Pointer_to p o e) h = sim_bind k.order objects in_place itself (sim_place e h)
          (λ to. sim_point_to k w bytes_good objects p o to (λ m a. a.0))
      sim_value (Convert p old new plain e) h = sim_bind k.order objects itself itself (sim_value e h)
          (λ v. sim_convert p old new v (λ m a. a.0))
      sim_value (Discard e) h = sim_then k.order objects itself itself (sim_value e h)
          (sim_nothing k w bytes_good objects)
      sim_value (Unary p sign j e) h = sim_bind k.order objects itself itself (sim_value e h) (λ v.
          sim_ask k.order objects itself p _ _
          (λ first frame m n e a. alone (r.good m) _ _ (signs k m w objects first frame n e sign j v a.0)))
      sim_value (Not p j e) h = sim_bind k.order objects itself itself (sim_value e h)
          (λ v. sim_bind k.order objects no_values itself (sim_test k w bytes_good objects p j v (λ m a. a.0))
          (λ b. sim_truth (not b)))
      sim_value (Binary p op x y) h = sim_bind k.order objects itself itself (sim_value x h.0)
          (λ v. sim_bind k.order objects itself itself (sim_value y h.1)
          (λ z. sim_operate p op v z (λ m a. (a.1.0, a.0))))
      sim_value (Compare p op j x y) h = sim_bind k.order objects itself itself (sim_value x h.0)
          (λ v. sim_bind k.order objects itself itself (sim_value y h.1) (λ z.
          sim_bind k.order objects no_values itself
          (sim_ask k.order objects no_values p _ _
          (λ first frame m n e a. unasked _ _ (compared k m w objects first frame n e op j v z a.1.0 a.0)))
          (λ b. sim_truth b)))
      sim_value (And p i j x y) h = sim_bind k.order objects itself itself (sim_value x h.0)
          (λ v. sim_bind k.order objects no_values itself (sim_test k w bytes_good objects p i v (λ m a. a.0)) (λ c.
          sim_choose k.order objects itself c
          (sim_bind k.order objects itself itself (sim_value y h.1)
          (λ z. sim_bind k.order objects no_values itself (sim_test k w bytes_good objects p j z (λ m a. a.0))
          (λ d. sim_truth d)))
          (sim_truth false)))
      sim_value (Or p i j x y) h = sim_bind k.order objects itself itself (sim_value x h.0)
          (λ v. sim_bind k.order objects no_values itself (sim_test k w bytes_good objects p i v (λ m a. a.0)) (λ c.
          sim_choose k.order objects itself c (sim_truth true)
          (sim_bind k.order objects itself itself (sim_value y h.1)
          (λ z. sim_bind k.order objects no_values itself (sim_test k w bytes_good objects p j z (λ m a. a.0))
          (λ d. sim_truth d)))))
      sim_value (Conditional p j c x y) h = sim_bind k.order objects itself itself (sim_value c h.0)
          (λ v. sim_bind k.order objects no_values itself (sim_test k w bytes_good objects p j v (λ m a. a.0)) (λ d.
          sim_choose k.order objects itself d (sim_value x h.1) (sim_value y h.2)))
      sim_value (Comma x y) h = sim_then k.order objects itself itself (sim_value x h.0) (sim_value y h.1)
      sim_value (Assign j x y) h = sim_bind k.order objects in_place itself (sim_place x h.0)
          (λ to. sim_bind k.order objects itself itself (sim_value y h.1) (λ v.
          sim_then k.order objects no_values itself (sim_store k w bytes_good objects j to v (λ m a. a.0))
          (sim_give k.order objects itself v (λ m a. (a.0, tt)))))
      sim_value (Copy p bytes unit x y) h = sim_bind k.order objects in_place itself (sim_place x h.0)
          (λ to. sim_bind k.order objects in_place itself (sim_place y h.1) (λ from.
          sim_then k.order objects no_values itself (sim_copy k w bytes_good objects p bytes unit from to)
          (sim_nothing k w bytes_good objects)))
      sim_value (Compound p op kind computed old x y) h = sim_bind k.order objects in_place itself (sim_place x h.0)
          (λ to. sim_bind k.order objects itself itself (sim_value y h.1) (λ z.
          sim_bind k.order objects itself itself (sim_load k w bytes_good objects kind to) (λ v.
          sim_bind k.order objects itself itself (sim_convert p kind computed v (λ m a. a.0)) (λ v'.
          sim_bind k.order objects itself itself (sim_operate p op v' z (λ m a. (a.0, a.1.1.0))) (λ u.
          sim_bind k.order objects itself itself (sim_convert p computed kind u (λ m a. a.0)) (λ u'.
          sim_then k.order objects no_values itself (sim_store k w bytes_good objects kind to u' (λ m a. a.0))
          (sim_old old v u' (λ m a. (a.1.1.1.0, a.0)))))))))
      sim_value {known} (Call p fits e args) h = sim_bind k.order objects itself itself (sim_value e h.0)
          (λ c. sim_bind k.order objects all_of itself (sim_values args h.1) (λ vs.
          sim_bind k.order objects no_values itself (sim_called k w bytes_good objects p fits c) (λ f.
          sim_then k.order objects no_values itself (sim_turn k.order objects)
          (sim_bind k.order objects itself itself
          (sim_known k.order objects vs itself (λ m a. all_left k w bytes_good objects m vs (c ∷ known) a)
          (calls f vs)) (λ v.
          sim_then k.order objects no_values itself (sim_turn k.order objects)
          (sim_give k.order objects itself v (λ m a. (a.0, tt))))))))
      sim_value {known} (Library p service args) h = sim_bind k.order objects all_of itself (sim_values args h)
          (λ vs. sim_serve k w bytes_good objects p service vs (λ m a. all_left k w bytes_good objects m vs known a))
      sim_value (Variable p x) h = sim_nothing k w bytes_good objects
      sim_value (Local p x) h = sim_nothing k w bytes_good objects
      sim_value (Object p object permissions) h = sim_nothing k w bytes_good objects
      sim_value (Function p f) h = sim_give k.order objects itself (Fun f) (λ m a. (k.sentries m f h, tt))
      sim_value (Deref p e) h = sim_then k.order objects itself itself (sim_value e h)
          (sim_nothing k w bytes_good objects)
      sim_value (Member p offset e) h = sim_then k.order objects in_place itself (sim_place e h)
          (sim_nothing k w bytes_good objects)

      pub sim_place : {known : List Value} (e : Ex) → IsFit globals functions objects e
          → Sim k.order objects known in_place (place_of ops w call e) (place_of pops w call' e)
      sim_place (Variable p x) h = sim_give k.order objects in_place (In p x) (λ m a. (k.nulls m 0 (omega arith), tt))
      sim_place (Local p x) h = sim_whole k w bytes_good objects p _ _
          (λ s n frame e. k.local_pointers objects s.first frame s.mem n e.memory x h)
      sim_place (Object p object permissions) h = sim_whole k w bytes_good objects p _ _
          (λ s n frame e. k.global_pointers objects s.first frame s.mem n e.memory object permissions h.0 h.1)
      sim_place (Function p f) h = sim_give k.order objects in_place (At p (Fun f)) (λ m a. (k.sentries m f h, tt))
      sim_place (Deref p e) h = sim_bind k.order objects itself in_place (sim_value e h)
          (λ v. sim_give k.order objects in_place (At p v) (λ m a. (a.0, tt)))
      sim_place (Member p offset e) h = sim_bind k.order objects in_place in_place (sim_place e h) (λ from.
          sim_bind k.order objects itself in_place
          (sim_ask k.order objects itself p _ _
          (λ first frame m n e a. alone (r.good m) _ _
          (k.offsets objects first frame m n e (capability_of from) offset a.0)))
          (λ v. sim_give k.order objects in_place (At p v) (λ m a. (a.0, tt))))
      sim_place (Aggregate e) h = sim_place e h
      sim_place (Conditional p j c x y) h = sim_bind k.order objects itself in_place (sim_value c h.0)
          (λ v. sim_bind k.order objects no_values in_place (sim_test k w bytes_good objects p j v (λ m a. a.0)) (λ d.
          sim_choose k.order objects in_place d (sim_place x h.1) (sim_place y h.2)))
      sim_place (Comma x y) h = sim_then k.order objects itself in_place (sim_value x h.0) (sim_place y h.1)
      sim_place (Copy p bytes unit x y) h = sim_bind k.order objects in_place in_place (sim_place x h.0)
          (λ to. sim_bind k.order objects in_place in_place (sim_place y h.1) (λ from.
          sim_then k.order objects no_values in_place (sim_copy k w bytes_good objects p bytes unit from to)
          (sim_give k.order objects in_place to (λ m a. (a.1.0, tt)))))
      sim_place (Number v) h = sim_nowhere k w bytes_good objects
      sim_place (Null v) h = sim_nowhere k w bytes_good objects
      sim_place (Load j e) h = sim_nowhere k w bytes_good objects
      sim_place (Pointer_to p o e) h = sim_nowhere k w bytes_good objects
      sim_place (Convert p old new plain e) h = sim_nowhere k w bytes_good objects
      sim_place (Discard e) h = sim_nowhere k w bytes_good objects
      sim_place (Unary p sign j e) h = sim_nowhere k w bytes_good objects
      sim_place (Not p j e) h = sim_nowhere k w bytes_good objects
      sim_place (Binary p op x y) h = sim_nowhere k w bytes_good objects
      sim_place (Compare p op j x y) h = sim_nowhere k w bytes_good objects
      sim_place (And p i j x y) h = sim_nowhere k w bytes_good objects
      sim_place (Or p i j x y) h = sim_nowhere k w bytes_good objects
      sim_place (Assign j x y) h = sim_nowhere k w bytes_good objects
      sim_place (Compound p op kind computed old x y) h = sim_nowhere k w bytes_good objects
      sim_place (Call p fits e args) h = sim_nowhere k w bytes_good objects
      sim_place (Library p service args) h = sim_nowhere k w bytes_good objects

      pub sim_values : {known : List Value} (es : Exs) → AreFit globals functions objects es
          → Sim k.order objects known all_of (values_of ops w call es) (values_of pops w call' es)
      sim_values Nil h = sim_give k.order objects all_of [] (λ m a. tt)
      sim_values {known} (Cons e es) h = sim_bind k.order objects itself all_of (sim_value e h.0)
          (λ v. sim_bind k.order objects all_of all_of (sim_values es h.1) (λ vs.
          sim_give k.order objects all_of (v ∷ vs)
          (λ m a. (
            (all_right k w bytes_good objects m vs (v ∷ known) a).0,
            all_left k w bytes_good objects m vs
                (v ∷ known) a,
          ))))
