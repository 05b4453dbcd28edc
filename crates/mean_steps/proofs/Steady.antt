-- No part of the machine gives turns back, or ends a run as the outside does.
use Rattle.std.proofs.Common.{◌≢◌, ℕ, zero, suc, ◌+◌, ◌≤◌, ◌/◌, Bool, true, false, List, [], ◌∷◌, Option, Some, None}
use Rattle.std.proofs.Common.{Result, Ok, Err, arith}
use Rattle.std.specs.Prelude.{slice_get, slice_index_or, if◌then◌else◌}
use Rattle.ck_base.specs.declared.positions.Pos.{Pos}
use Rattle.ck_int.specs.declared.kinds.CmpOp.TheVariants.{Eq}
use Rattle.obj_mem.specs.Values.{Value, Int, Live, Raw}
use Rattle.obj_mem.specs.Values as value
use Rattle.obj_mem.specs.declared.ending.Ending.{Ending}
use Rattle.obj_mem.specs.declared.ending.Ending.TheVariants as ending
use Rattle.obj_mem.specs.declared.ending.Fault.{Fault}
use Rattle.obj_mem.specs.declared.ending.Fault.TheVariants as fault
use Rattle.obj_mem.specs.declared.ending.UnitFault.{UnitFault}
use Rattle.obj_mem.specs.declared.ending.UnitFault.TheVariants as half
use Rattle.cheri_c_sem.specs.Kinds.{Kind, bytes_of, read_as, nothing}
use Rattle.cheri_c_sem.specs.Operations.{Operations, compare_by, convert_by, is_true}
use Rattle.cheri_c_sem.specs.Steps.{fault_end, unit_end}
use Rattle.cheri_c_sem.specs.Tree.{Narrowing, Declared, Simple, Objects, Label, Case, Default, Parameter, In_variable}
use Rattle.cheri_c_sem.specs.Tree.{In_object, At_end, Gives_nothing, Gives_zero, Lacks, Ex, Load, Pointer_to, Convert}
use Rattle.cheri_c_sem.specs.Tree.{Unary, Not, Binary, Compare, Assign, Copy, Compound, Fun}
use Rattle.cheri_c_sem.specs.Meaning.{Place, In, At, position_of, capability_of, further, first_of, second_of}
use Rattle.cheri_c_sem.specs.Meaning.{operate_by, sign_by}
use Rattle.cheri_c_sem.specs.Statements.{label_value}
use Rattle.mean_steps.specs.Parts.{Now, Came, On, Over, Part, next_of, give, ends, answer, unit_answer, turn_from, turn}
use Rattle.mean_steps.specs.Parts.{choose, ask, set_memory, change_memory, set_variable, given, load, store, copy_units}
use Rattle.mean_steps.specs.Parts.{copy, point_to, part_of_local, test, allocate, enter_one, enter, leave_one, leave}
use Rattle.mean_steps.specs.Parts.{find_label, compatible, called, frame, pass_one, pass, at_end, close}
use Rattle.mean_steps.specs.Machine.{Caller, no_world, behind, first_place, back, turn_behind, finish}
use Rattle.mean_steps.specs.Weights.{by_turns}

abbrev pub IsOwn : Ending → Type 0
IsOwn e = (e ≢ ending.ReadFault) × (e ≢ ending.WriteFault)

pub own_fault : (f : Fault) (p : Pos) → IsOwn (fault_end f p)
own_fault (fault.Cause c) p = ((λ h. cc), (λ h. cc))
own_fault fault.Outside p = ((λ h. cc), (λ h. cc))
own_fault (fault.Unspecified r) p = ((λ h. cc), (λ h. cc))

own_unit : (f : UnitFault) (from to : Pos) → IsOwn (unit_end f from to)
own_unit (half.Load f) from to = own_fault f from
own_unit (half.Store f) from to = own_fault f to

pub own_turns : IsOwn ending.Turns
own_turns = ((λ h. cc), (λ h. cc))

module _ (most : ℕ) where
  -- what a part came to has so many acts fewer left by its turns
  abbrev pub Spent : {M A : Type 0} → ℕ → ℕ → Came M A → Type 0
  Spent fewer all (On x n) = by_turns most n.left + fewer ≤ all
  Spent fewer all (Over e) = IsOwn e

  pub record Spends {M A : Type 0} (fewer : ℕ) (p : Part M A) : Type 0 where
    pub at : (n : Now M) → Spent fewer (by_turns most n.left) (p n)

  abbrev pub Steady : {M A : Type 0} → Part M A → Type 0
  Steady p = Spends 0 p

  module _ {M : Type 0} where
    pub steady_give : {A : Type 0} (x : A) → Steady {M = M} (give x)
    steady_give x = record { at = λ n. omega arith }

    pub steady_ends : {A : Type 0} (e : Ending) (fewer : ℕ) → IsOwn e → Spends {M = M} {A = A} fewer (ends e)
    steady_ends e fewer h = record { at = λ n. h }

    more_spent : {B : Type 0} (j k l now all : ℕ) (r : Came M B) → now + j ≤ all → l ≤ j + k → Spent k now r →
        Spent l all r
    more_spent j k l now all (Over e) h le q = q
    more_spent j k l now all (On y t) h le q = omega arith

    next_spent : {A B : Type 0} (j k l all : ℕ) (r : Came M A) (g : A → Part M B) → l ≤ j + k → Spent j all r →
        ((x : A) → Spends k (g x)) → Spent l all (next_of r g)
    next_spent j k l all (Over e) g le h i = h
    next_spent j k l all (On x n) g le h i = more_spent j k l (by_turns most n.left) all (g x n) h le ((i x).at n)

    pub spends_bind : {A B : Type 0} (j k l : ℕ) (p : Part M A) (g : A → Part M B) → l ≤ j + k → Spends j p →
        ((x : A) → Spends k (g x)) → Spends l (λ n. next_of (p n) g)
    spends_bind j k l p g le h i = record { at = λ n. next_spent j k l (by_turns most n.left) (p n) g le (h.at n) i }

    pub steady_bind : {A B : Type 0} (p : Part M A) (g : A → Part M B) → Steady p → ((x : A) → Steady (g x)) →
        Steady (λ n. next_of (p n) g)
    steady_bind p g h i = spends_bind 0 0 0 p g (omega arith) h i

    pub steady_answer : {A : Type 0} (pos : Pos) (r : Result A Fault) → Steady {M = M} (answer pos r)
    steady_answer pos (Ok x) = steady_give x
    steady_answer pos (Err f) = record { at = λ n. own_fault f pos }

    steady_unit_answer : {A : Type 0} (from to : Pos) (r : Result A UnitFault) → Steady {M = M} (unit_answer from to r)
    steady_unit_answer from to (Ok x) = steady_give x
    steady_unit_answer from to (Err f) = record { at = λ n. own_unit f from to }

    turn_spends : (left : ℕ) (n : Now M) → Spent most (by_turns most left) (turn_from left n)
    turn_spends zero n = own_turns
    turn_spends (suc j) n = omega arith

    pub spends_turn : Spends {M = M} most turn
    spends_turn = record { at = λ n. turn_spends n.left n }

    pub steady_turn : Steady {M = M} turn
    steady_turn = record {
      at = λ n. more_spent 0 most 0 (by_turns most n.left) (by_turns most n.left) (turn n)
          (omega arith) (omega arith) (turn_spends n.left n);
    }

    pub steady_choose : {A : Type 0} (v : Bool) (a b : Part M A) → Steady a → Steady b → Steady (choose v a b)
    steady_choose true a b h i = h
    steady_choose false a b h i = i

    pub steady_ask : {A : Type 0} (pos : Pos) (f : M → Result A Fault) → Steady (ask pos f)
    steady_ask pos f = record { at = λ n. (steady_answer pos (f n.mem)).at n }

    pub steady_set_memory : (m : M) → Steady (set_memory m)
    steady_set_memory m = record { at = λ n. omega arith }

    pub steady_change_memory : (f : M → M) → Steady (change_memory f)
    steady_change_memory f = record { at = λ n. omega arith }

    pub steady_set_variable : (x : ℕ) (v : Option Value) → Steady {M = M} (set_variable x v)
    steady_set_variable x v = record { at = λ n. omega arith }

  module _ {M : Type 0} (ops : Operations M) where
    steady_given : (p : Pos) (k : Kind) (o : Option (Option Value)) → Steady (given ops p k o)
    steady_given p k (Some (Some v)) = steady_give v
    steady_given p k (Some None) = steady_answer p (ops.unset k)
    steady_given p k None = steady_answer p (ops.unset k)

    pub steady_load : (k : Kind) (p : Place) → Steady (load ops k p)
    steady_load k (In p x) = record { at = λ n. (steady_given p k (slice_get n.vars x)).at n }
    steady_load k (At p v) = steady_bind _ _ (steady_ask p (λ m. ops.load m v (bytes_of k)))
        (λ r. steady_give (read_as k r))

    pub steady_store : (k : Kind) (p : Place) (v : Value) → Steady (store ops k p v)
    steady_store k (In p x) v = steady_set_variable x (Some v)
    steady_store k (At p to) v =
        steady_bind _ _ (steady_ask p (λ m. ops.store m to (bytes_of k) v)) (λ m. steady_set_memory m)

    steady_copy_units : (j unit at : ℕ) (from to : Place) → Steady (copy_units ops j unit at from to)
    steady_copy_units zero unit at from to = steady_give tt
    steady_copy_units (suc j) unit at from to =
        steady_bind (λ n. unit_answer (position_of from) (position_of to)
        (ops.copy_unit n.mem (further (capability_of from) at) (further (capability_of to) at) unit) n) _
        (record {
          at = λ n. (steady_unit_answer (position_of from) (position_of to)
              (ops.copy_unit n.mem (further (capability_of from) at) (further (capability_of to) at) unit)).at n;
        })
        (λ m. steady_bind _ _ (steady_set_memory m) (λ _. steady_copy_units j unit (at + unit) from to))

    pub steady_copy : (p : Pos) (bytes unit : ℕ) (from to : Place) → Steady (copy ops p bytes unit from to)
    steady_copy p bytes unit from to =
        steady_bind _ _ (steady_answer p (ops.overlap (capability_of from) (capability_of to) bytes))
        (λ _. steady_copy_units (bytes / unit) unit 0 from to)

    pub steady_point_to : (p : Pos) (o : Option Narrowing) (to : Place) → Steady (point_to ops p o to)
    steady_point_to p None to = steady_give (capability_of to)
    steady_point_to p (Some n) to =
        steady_bind _ _ (steady_ask p (λ m. ops.narrow m (capability_of to) n.owned true))
        (λ r. steady_bind _ _ (steady_change_memory (λ m. ops.note_member m r n.own)) (λ _. steady_give r))

    pub steady_part_of_local : (p : Pos) (local offset : ℕ) → Steady (part_of_local ops p local offset)
    steady_part_of_local p local offset = record {
      at = λ n. (steady_bind _ _ (steady_ask p (λ m. ops.offset m (ops.whole m (n.first + local) 125) offset))
          (λ v. steady_give (At p v))).at n;
    }

    pub steady_test : (p : Pos) (k : Kind) (v : Value) → Steady (test ops p k v)
    steady_test p k v = steady_ask p (λ m. is_true ops m k v)

    pub steady_allocate : (p : Pos) (j : ℕ) → Steady (allocate ops p j)
    steady_allocate p j = steady_bind _ _ (steady_ask p (λ m. ops.allocate m j))
        (λ r. steady_bind _ _ (steady_set_memory r.1) (λ _. steady_give r.0))

    steady_enter_one : (x : Declared) → Steady (enter_one ops x)
    steady_enter_one (Simple x) = steady_set_variable x None
    steady_enter_one (Objects j) = record { at = λ n. omega arith }

    pub steady_enter : (ds : List Declared) → Steady (enter ops ds)
    steady_enter [] = steady_give tt
    steady_enter (x ∷ ds) = steady_bind _ _ (steady_enter_one x) (λ _. steady_enter ds)

    steady_leave_one : (x : Declared) → Steady (leave_one ops x)
    steady_leave_one (Simple x) = steady_give tt
    steady_leave_one (Objects j) = record { at = λ n. omega arith }

    pub steady_leave : (ds : List Declared) → Steady (leave ops ds)
    steady_leave [] = steady_give tt
    steady_leave (x ∷ ds) = steady_bind _ _ (steady_leave_one x) (λ _. steady_leave ds)

    pub steady_find_label : (p : Pos) (k : Kind) (v : Value) (ls : List Label) (o : Option ℕ) →
        Steady (find_label ops p k v ls o)
    steady_find_label p k v [] o = steady_give o
    steady_find_label p k v (Default j ∷ ls) o = steady_find_label p k v ls o
    steady_find_label p k v (Case c j ∷ ls) o =
        steady_bind _ _ (steady_ask p (λ m. compare_by ops m Eq k v (label_value k c)))
        (λ same. steady_choose same _ _ (steady_give (Some j)) (steady_find_label p k v ls o))

    steady_compatible : (p : Pos) (f : ℕ) (fits : Bool) → Steady (compatible ops p f fits)
    steady_compatible p f true = steady_give f
    steady_compatible p f false = steady_ends (ending.Outside p) 0 ((λ h. cc), (λ h. cc))

    pub steady_called : (p : Pos) (fits : List Bool) (v : Value) → Steady (called ops p fits v)
    steady_called p fits (value.Fun f) = steady_compatible p f (slice_index_or fits f false)
    steady_called p fits (Live object low high offset permissions) = steady_ends _ 0 ((λ h. cc), (λ h. cc))
    steady_called p fits (Raw address upper) = steady_ends _ 0 ((λ h. cc), (λ h. cc))
    steady_called p fits (Int j) = steady_ends _ 0 ((λ h. cc), (λ h. cc))

    pub steady_frame : (o : Option ℕ) (j : ℕ) (f : Fun) → Steady (frame ops o j f)
    steady_frame None j f = steady_ends (ending.Stack f.name) 0 ((λ h. cc), (λ h. cc))
    steady_frame (Some address) j f = record { at = λ n. omega arith }

    steady_pass_one : (p : Pos) (a : Parameter) (v : Value) → Steady (pass_one ops p a v)
    steady_pass_one p (In_variable x) v = steady_set_variable x (Some v)
    steady_pass_one p (In_object j k) v = record {
      at = λ n. (steady_bind _ _ (steady_change_memory (λ m. ops.zero m (n.first + j)))
          (λ _. steady_store k (At p (ops.whole n.mem (n.first + j) 125)) v)).at n;
    }

    pub steady_pass : (p : Pos) (ps : List Parameter) (vs : List Value) → Steady (pass ops p ps vs)
    steady_pass p [] vs = steady_give tt
    steady_pass p (a ∷ ps) [] = steady_give tt
    steady_pass p (a ∷ ps) (v ∷ vs) = steady_bind _ _ (steady_pass_one p a v) (λ _. steady_pass p ps vs)

    pub steady_at_end : (p : Pos) (e : At_end) → Steady (at_end ops p e)
    steady_at_end p Gives_nothing = steady_give nothing
    steady_at_end p Gives_zero = steady_give (Int 0)
    steady_at_end p (Lacks k) = steady_answer p (ops.falls k)

    pub steady_close : (f : Fun) → Steady (close ops f)
    steady_close f = record { at = λ n. omega arith }

    pub steady_back : (c : Caller) → Steady {M = M} (back c)
    steady_back c = record { at = λ n. omega arith }

    pub steady_turn_behind : (first : Bool) → Steady {M = M} (turn_behind first)
    steady_turn_behind true = steady_give tt
    steady_turn_behind false = steady_turn

    pub steady_finish : (funs : List Fun) (e : Ex) (vs : List Value) (ps : List Place) →
        Steady (finish ops funs e vs ps)
    steady_finish funs (Load k e) vs ps = steady_load k (first_place ps)
    steady_finish funs (Pointer_to p n e) vs ps = steady_point_to p n (first_place ps)
    steady_finish funs (Convert p old new plain e) vs ps = steady_ask p (λ m. convert_by ops m old new (first_of vs))
    steady_finish funs (Unary p sign k e) vs ps = steady_ask p (λ m. sign_by ops no_world sign k m (first_of vs))
    steady_finish funs (Not p k e) vs ps = steady_bind _ _ (steady_test p k (first_of vs)) (λ b. steady_give _)
    steady_finish funs (Binary p op a b) vs ps =
        steady_ask p (λ m. operate_by ops no_world op m (second_of vs) (first_of vs))
    steady_finish funs (Compare p op k a b) vs ps =
        steady_bind _ _ (steady_ask p (λ m. compare_by ops m op k (second_of vs) (first_of vs))) (λ r. steady_give _)
    steady_finish funs (Assign k a b) vs ps =
        steady_bind _ _ (steady_store k (first_place ps) (first_of vs)) (λ _. steady_give (first_of vs))
    steady_finish funs (Copy p bytes unit a b) vs ps =
        steady_bind _ _ (steady_copy p bytes unit (first_place ps) (first_place (behind ps))) (λ _. steady_give nothing)
    steady_finish funs (Compound p op kind computed old a b) vs ps =
        steady_bind _ _ (steady_load kind (first_place ps))
        (λ x. steady_bind _ _ (steady_ask p (λ m. convert_by ops m kind computed x))
        (λ v. steady_bind _ _ (steady_ask p (λ m. operate_by ops no_world op m v (first_of vs)))
        (λ r. steady_bind _ _ (steady_ask p (λ m. convert_by ops m computed kind r))
        (λ z. steady_bind _ _ (steady_store kind (first_place ps) z) (λ _. steady_give (if old then x else z))))))
    steady_finish funs _ vs ps = steady_give nothing
